-- `agree::entity_break` meets its contract. Assumes nothing.
use Rattle.agree.proofs.Merging.{Breaking}
use Rattle.agree.proofs.entity_break.Given as goal

abbrev pub invariant-loop-i : goal.invariant-loop-i
invariant-loop-i l = Breaking l.rows l.others l.n l.i l.j
