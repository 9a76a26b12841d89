-- `above::reached_fit` meets its contract. Assumes nothing.
use Rattle.above.proofs.Fits.{fitted_by, fitted_other}
use borrow.Author.Rules.{rules}
use Rattle.above.proofs.reached_fit.Goals as goal

pub returns-then-tag-ne-ENTITY_VALUE : goal.returns-then-tag-ne-ENTITY_VALUE
returns-then-tag-ne-ENTITY_VALUE c = search (fitted_other, rules)

pub returns : goal.returns
returns c = search (fitted_by, rules)
