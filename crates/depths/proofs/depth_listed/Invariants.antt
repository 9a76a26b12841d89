-- `depths::depth_listed` meets its contract. Assumes nothing.
use Rattle.depths.proofs.DepthLaws.{Walk}
use Rattle.depths.proofs.depth_listed.Given as goal

abbrev pub invariant-loop-x : goal.invariant-loop-x
invariant-loop-x l = Walk l.rows l.work l.key l.line l.places l.deepest l.x-index
