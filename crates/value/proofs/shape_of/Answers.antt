-- `value::shape_of` meets its contract. Assumes nothing.
use Rattle.value.proofs.Shaped.{shape_none, shape_record, shape_set, shape_entity, shape_text, shape_long, shape_bool}
use borrow.Author.Rules.{rules}
use Rattle.value.proofs.shape_of.Goals as goal

pub returns-then-t-gt-RECORD_VALUE : goal.returns-then-t-gt-RECORD_VALUE
returns-then-t-gt-RECORD_VALUE c = search (shape_none, rules)

pub returns-in-15 : goal.returns-in-15
returns-in-15 c = search (shape_record, rules)

pub returns-in-14 : goal.returns-in-14
returns-in-14 c = search (shape_set, rules)

pub returns-in-13 : goal.returns-in-13
returns-in-13 c = search (shape_entity, rules)

pub returns-in-12 : goal.returns-in-12
returns-in-12 c = search (shape_text, rules)

pub returns-in-11 : goal.returns-in-11
returns-in-11 c = search (shape_long, rules)

pub returns-in_default : goal.returns-in_default
returns-in_default c = search (shape_bool, rules)
