-- `firsts::enter_all` meets its contract. Assumes nothing.
use Rattle.firsts.proofs.Leading.{Entering}
use Rattle.firsts.proofs.enter_all.Given as goal

abbrev pub invariant-loop-i : goal.invariant-loop-i
invariant-loop-i l = Entering l.rows l.seen l.cells l.n l.i l.start
