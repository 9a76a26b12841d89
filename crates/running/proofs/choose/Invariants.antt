-- `running::choose` meets its contract. Assumes nothing.
use Rattle.running.proofs.Runs.{Choosing}
use Rattle.running.proofs.choose.Given as goal

abbrev pub invariant-loop-i : goal.invariant-loop-i
invariant-loop-i l = Choosing l.initial.rows l.rows l.day l.i
