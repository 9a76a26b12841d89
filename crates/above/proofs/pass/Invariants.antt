-- `above::pass` meets its contract. Assumes nothing.
use Rattle.above.proofs.Fits.{Passing}
use Rattle.above.proofs.pass.Given as goal

abbrev pub invariant-loop-i : goal.invariant-loop-i
invariant-loop-i l = Passing l.rows l.kind l.marks l.initial.fit l.fit l.i-end l.i
