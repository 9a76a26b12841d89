-- `yielding::lazy` meets its contract. Assumes nothing.
use Rattle.yielding.proofs.Turning.{lazy_other, lazy_left, lazy_right}
use Rattle.yielding.proofs.lazy.Goals as goal

pub returns-in_err-x : goal.returns-in_err-x
returns-in_err-x c = lazy_other _ _ _ c.truth_of.ensures _ c.ok_or.ensures.ok_part _ _ _ c.in_err-x.was _ c.from_residual.ensures.0

pub returns-then-x-stop : goal.returns-then-x-stop
returns-then-x-stop c = lazy_left _ _ _ c.truth_of.ensures _ c.ok_or.ensures.ok_part _ c.in_ok-x.was _ _ c.if-x-stop.true

pub returns : goal.returns
returns c = lazy_right _ _ _ c.truth_of.ensures _ c.ok_or.ensures.ok_part _ c.in_ok-x.was _ _ _ c.if-x-stop.false c.only_bool.ensures
