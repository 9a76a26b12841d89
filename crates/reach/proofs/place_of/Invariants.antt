-- `reach::place_of` meets its contract. Assumes nothing.
use Rattle.reach.proofs.Steps.{Placing}
use Rattle.reach.proofs.place_of.Given as goal

abbrev pub invariant-loop-i : goal.invariant-loop-i
invariant-loop-i l = Placing l.rows l.value l.n l.i
