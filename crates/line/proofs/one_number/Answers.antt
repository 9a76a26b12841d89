-- `line::one_number` meets its contract. Assumes nothing.
use Rattle.line.proofs.LawsItem.{star_or, dash_or, unknown_partial, unknown_complete, line_index, slot_entry, slot_kind, slot_field, slot_bit, slot_part, slot_effect, slot_date, slot_letter, slot_none}
use borrow.Author.Rules.{rules}
use Rattle.line.proofs.one_number.Goals as goal

pub returns-then-slot-ge-STAR : goal.returns-then-slot-ge-STAR
returns-then-slot-ge-STAR c = search (star_or, rules)

pub returns-then-slot-ge-DASH : goal.returns-then-slot-ge-DASH
returns-then-slot-ge-DASH c = search (dash_or, rules)

pub returns-then-partial : goal.returns-then-partial
returns-then-partial c = search (unknown_partial, rules)

pub returns-then-slot-ge-UNKNOWN : goal.returns-then-slot-ge-UNKNOWN
returns-then-slot-ge-UNKNOWN c = search (unknown_complete, rules)

pub returns-then-slot-ge-LINE : goal.returns-then-slot-ge-LINE
returns-then-slot-ge-LINE c = search (line_index, rules)

pub returns-in-2 : goal.returns-in-2
returns-in-2 c = search (slot_entry, rules)

pub returns-in-3 : goal.returns-in-3
returns-in-3 c = search (slot_kind, rules)

pub returns-in-4 : goal.returns-in-4
returns-in-4 c = search (slot_field, rules)

pub returns-in-5 : goal.returns-in-5
returns-in-5 c = search (slot_bit, rules)

pub returns-in-6 : goal.returns-in-6
returns-in-6 c = search (slot_part, rules)

pub returns-in-7 : goal.returns-in-7
returns-in-7 c = search (slot_effect, rules)

pub returns-in-8 : goal.returns-in-8
returns-in-8 c = search (slot_date, rules)

pub returns-in-9 : goal.returns-in-9
returns-in-9 c = search (slot_letter, rules)

pub returns-in_default : goal.returns-in_default
returns-in_default c = search (slot_none, rules)
