-- `uses::under_two` meets its contract. Assumes nothing.
use Rattle.uses.proofs.UnderLaws.{under_two_law}
use borrow.Author.Rules.{rules}
use Rattle.uses.proofs.under_two.Goals as goal

pub returns : goal.returns
returns c = search (under_two_law, rules)
