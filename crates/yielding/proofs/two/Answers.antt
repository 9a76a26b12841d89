-- `yielding::two` meets its contract. Assumes nothing.
use Rattle.yielding.proofs.Turning.{two_left, two_right, two_on}
use Rattle.yielding.proofs.two.Goals as goal

pub returns-in_err-first : goal.returns-in_err-first
returns-in_err-first c = two_left _ _ _ _ _ c.in_err-first.was _ c.from_residual.ensures.0

pub returns-in_err-second : goal.returns-in_err-second
returns-in_err-second c = two_right _ _ _ _ _ _ c.in_ok-first.was c.in_err-second.was _ c.from_residual-in_err-second.ensures.0

pub returns : goal.returns
returns c = two_on _ _ _ _ _ _ _ _ c.in_ok-first.was c.in_ok-second.was c.apply_two.ensures
