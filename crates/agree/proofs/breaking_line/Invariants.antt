-- `agree::breaking_line` meets its contract. Assumes nothing.
use Rattle.agree.proofs.Keys.{Passing}
use Rattle.agree.proofs.breaking_line.Given as goal

abbrev pub invariant-loop-key : goal.invariant-loop-key
invariant-loop-key l = Passing l.partial l.rows l.complete l.others l.key l.before
