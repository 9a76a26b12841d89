-- `tpe::steps::entity_type` meets its contract. Assumes nothing.
use Rattle.tpe.proofs.Walks.{Seeking}
use Rattle.tpe.proofs.steps.entity_type.Given as goal

abbrev pub invariant-loop-i : goal.invariant-loop-i
invariant-loop-i l = Seeking l.rows l.kind l.n l.i
