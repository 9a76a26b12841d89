-- `above::unfit_at` meets its contract. Assumes nothing.
use Rattle.reach.proofs.Steps.{mark_none}
use Rattle.above.proofs.Fits.{unfit_some}
use borrow.Author.Rules.{rules}
use Rattle.above.proofs.unfit_at.Goals as goal

pub returns-then-read-eq0 : goal.returns-then-read-eq0
returns-then-read-eq0 c = search (mark_none, rules)

pub returns : goal.returns
returns c = search (unfit_some, rules)
