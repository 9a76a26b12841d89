-- `above::pass_at` meets its contract. Assumes nothing.
use Rattle.above.proofs.Fits.{passed_one}
use borrow.Author.Rules.{rules}
use Rattle.above.proofs.pass_at.Goals as goal

pub returns : goal.returns
returns c = search (passed_one, rules)
