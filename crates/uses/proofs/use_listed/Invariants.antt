-- `uses::use_listed` meets its contract. Assumes nothing.
use Rattle.uses.proofs.UseLaws.{Marking}
use Rattle.uses.proofs.use_listed.Given as goal

abbrev pub invariant-loop-x : goal.invariant-loop-x
invariant-loop-x l = Marking l.rows l.initial.work l.line l.work l.places l.x-index
