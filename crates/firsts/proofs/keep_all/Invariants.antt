-- `firsts::keep_all` meets its contract. Assumes nothing.
use Rattle.firsts.proofs.Leading.{Keeping}
use Rattle.firsts.proofs.keep_all.Given as goal

abbrev pub invariant-loop-i : goal.invariant-loop-i
invariant-loop-i l = Keeping l.entries l.pairs l.value l.initial.cells l.cells l.low l.i
