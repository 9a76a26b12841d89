-- `uses::slot_of` meets its contract. Assumes nothing.
use Rattle.uses.proofs.UnderLaws.{slot_none, slot_first, slot_second}
use borrow.Author.Rules.{rules}
use Rattle.uses.proofs.slot_of.Goals as goal

pub returns-then-t-ne-SLOT : goal.returns-then-t-ne-SLOT
returns-then-t-ne-SLOT c = search (slot_none, rules)

pub returns-then-item-eq-SLOT_P : goal.returns-then-item-eq-SLOT_P
returns-then-item-eq-SLOT_P c = search (slot_first, rules)

pub returns : goal.returns
returns c = search (slot_second, rules)
