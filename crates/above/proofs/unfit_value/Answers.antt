-- `above::unfit_value` meets its contract. Assumes nothing.
use Rattle.reach.proofs.Steps.{mark_none}
use Rattle.above.proofs.Fits.{value_some}
use borrow.Author.Rules.{rules}
use Rattle.above.proofs.unfit_value.Goals as goal

pub returns-then-item_or-eq0 : goal.returns-then-item_or-eq0
returns-then-item_or-eq0 c = search (mark_none, rules)

pub returns : goal.returns
returns c = search (value_some, rules)
