-- `agree::any_unlisted` meets its contract. Assumes nothing.
use Rattle.agree.proofs.Merging.{Listing}
use Rattle.agree.proofs.any_unlisted.Given as goal

abbrev pub invariant-loop-i : goal.invariant-loop-i
invariant-loop-i l = Listing l.rows l.others l.n l.i l.j
