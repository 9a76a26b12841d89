-- `yielding::one` meets its contract. Assumes nothing.
use Rattle.yielding.proofs.Turning.{one_error, one_path, one_on}
use Rattle.yielding.proofs.one.Goals as goal

pub returns-in_err-value : goal.returns-in_err-value
returns-in_err-value c = one_error _ _ _ _ _ _ _ c.in_err-value.was _ c.from_residual.ensures.0

pub returns-then-tag-eq-HASPATH : goal.returns-then-tag-eq-HASPATH
returns-then-tag-eq-HASPATH c = one_path _ _ _ _ _ _ _ _ _ _ _ _ c.in_ok-value.was c.if-tag-eq-HASPATH.true c.row-line.ensures c.cut.ensures c.path_at-given.ensures c.settle.ensures

pub returns : goal.returns
returns c = one_on _ _ _ _ _ _ _ _ _ c.in_ok-value.was c.if-tag-eq-HASPATH.false c.apply_one.ensures
