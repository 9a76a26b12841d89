-- `above::found_unfit` meets its contract. Assumes nothing.
use Rattle.above.proofs.Fits.{unfit_far, unfit_no, unfit_yes}
use borrow.Author.Rules.{rules}
use Rattle.above.proofs.found_unfit.Goals as goal

pub returns-then-read-ne0 : goal.returns-then-read-ne0
returns-then-read-ne0 c = search (unfit_far, rules)

pub returns-then-any_value : goal.returns-then-any_value
returns-then-any_value c = search (unfit_yes, rules)

pub returns : goal.returns
returns c = search (unfit_no, rules)
