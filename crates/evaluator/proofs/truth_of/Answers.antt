-- `evaluator::truth_of` meets its contract. Assumes nothing.
use Rattle.evaluator.proofs.Settles.{truth_error, truth_value}
use Rattle.evaluator.proofs.truth_of.Goals as goal

pub returns-in_err-ok : goal.returns-in_err-ok
returns-in_err-ok c = truth_error _ _ _ _ c.ok.ensures.value c.in_err-ok.was c.from_residual.ensures

pub returns : goal.returns
returns c = truth_value _ _ _ _ _ c.ok.ensures.value c.in_ok-ok.was c.as_bool.ensures
