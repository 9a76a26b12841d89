-- `evaluator::only_bool` meets its contract. Assumes nothing.
use Rattle.evaluator.proofs.Settles.{only_error, only_is, only_other}
use Rattle.evaluator.proofs.only_bool.Goals as goal

pub returns-in_err-value : goal.returns-in_err-value
returns-in_err-value c = only_error _ _ _ c.in_err-value.was _ c.from_residual.ensures.0

pub returns-in-Some : goal.returns-in-Some
returns-in-Some c = only_is _ _ _ c.in_ok-value.was _ c.as_bool.ensures _ c.in-Some.is

pub returns-in-None : goal.returns-in-None
returns-in-None c = only_other _ _ _ c.in_ok-value.was _ c.as_bool.ensures c.in-None.is
