-- `reach::index` meets its contract. Assumes nothing.
use Rattle.reach.proofs.Steps.{Walking}
use Rattle.reach.proofs.index.Given as goal

abbrev pub invariant-loop-i : goal.invariant-loop-i
invariant-loop-i l = Walking l.rows l.initial.places l.initial.sets l.places l.sets l.b l.i l.end
