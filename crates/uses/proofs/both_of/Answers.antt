-- `uses::both_of` meets its contract. Assumes nothing.
use Rattle.uses.proofs.UnderLaws.{both_same, both_second, both_first, both_two}
use borrow.Author.Rules.{rules}
use Rattle.uses.proofs.both_of.Goals as goal

pub returns-then-x-y : goal.returns-then-x-y
returns-then-x-y c = search (both_same, rules)

pub returns-then-x-eq-NO_SLOT : goal.returns-then-x-eq-NO_SLOT
returns-then-x-eq-NO_SLOT c = search (both_second, rules)

pub returns-then-y-eq-NO_SLOT : goal.returns-then-y-eq-NO_SLOT
returns-then-y-eq-NO_SLOT c = search (both_first, rules)

pub returns : goal.returns
returns c = search (both_two, rules)
