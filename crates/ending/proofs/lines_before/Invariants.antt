-- `ending::lines_before` meets its contract. Assumes nothing.
use Rattle.ending.proofs.Finishing.{Summed}
use Rattle.ending.proofs.lines_before.Given as goal

abbrev pub invariant-loop-k : goal.invariant-loop-k
invariant-loop-k l = Summed l.rows l.key l.lines l.k
