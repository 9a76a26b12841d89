-- `above::first_unfit` meets its contract. Assumes nothing.
use Rattle.above.proofs.Fits.{Firsts}
use Rattle.above.proofs.first_unfit.Given as goal

abbrev pub invariant-loop-i : goal.invariant-loop-i
invariant-loop-i l = Firsts l.rows l.n l.fit l.i
