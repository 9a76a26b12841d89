-- `uses::under_of` meets its contract. Assumes nothing.
use Rattle.uses.proofs.UnderLaws.{under_leaf}
use borrow.Author.Rules.{rules}
use Rattle.uses.proofs.under_of.Goals as goal

pub returns-then-tag-lt-AND : goal.returns-then-tag-lt-AND
returns-then-tag-lt-AND c = search (under_leaf, rules)

pub under_two-requires : goal.under_two-requires
under_two-requires c = c.is_on_two.ensures c.if-is_on_two.true
