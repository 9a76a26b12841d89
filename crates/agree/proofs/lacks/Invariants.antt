-- `agree::lacks` meets its contract. Assumes nothing.
use Rattle.agree.proofs.Keys.{Lacking}
use Rattle.agree.proofs.lacks.Given as goal

abbrev pub invariant-loop-key : goal.invariant-loop-key
invariant-loop-key l = Lacking l.rows l.others l.key
