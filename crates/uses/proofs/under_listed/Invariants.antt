-- `uses::under_listed` meets its contract. Assumes nothing.
use Rattle.uses.proofs.UnderLaws.{Gathering}
use Rattle.uses.proofs.under_listed.Given as goal

abbrev pub invariant-loop-x : goal.invariant-loop-x
invariant-loop-x l = Gathering l.rows l.work l.line l.places l.under l.x-index
