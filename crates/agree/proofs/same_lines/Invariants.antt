-- `agree::same_lines` meets its contract. Assumes nothing.
use Rattle.agree.proofs.Alike.{Matching}
use Rattle.agree.proofs.same_lines.Given as goal

abbrev pub invariant-loop-i : goal.invariant-loop-i
invariant-loop-i l = Matching l.partial l.rows l.complete l.others l.key l.n l.m l.i
