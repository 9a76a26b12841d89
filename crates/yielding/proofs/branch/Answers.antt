-- `yielding::branch` meets its contract. Assumes nothing.
use Rattle.yielding.proofs.Turning.{if_other, if_true, if_false}
use Rattle.yielding.proofs.branch.Goals as goal

pub returns-in_err-x : goal.returns-in_err-x
returns-in_err-x c = if_other _ _ _ c.truth_of.ensures _ c.ok_or.ensures.ok_part _ _ _ c.in_err-x.was _ c.from_residual.ensures.0

pub returns-then-x : goal.returns-then-x
returns-then-x c = if_true _ _ _ c.truth_of.ensures _ c.ok_or.ensures.ok_part _ _ _ c.in_ok-x.was c.if-x.true

pub returns-else-x : goal.returns-else-x
returns-else-x c = if_false _ _ _ c.truth_of.ensures _ c.ok_or.ensures.ok_part _ _ _ c.in_ok-x.was c.if-x.false
