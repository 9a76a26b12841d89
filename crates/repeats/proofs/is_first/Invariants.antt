-- `repeats::is_first` meets its contract. Assumes nothing.
use Rattle.repeats.proofs.NamedLaws.{Named}
use Rattle.repeats.proofs.is_first.Given as goal

abbrev pub invariant-loop-i : goal.invariant-loop-i
invariant-loop-i l = Named l.x l.rows l.key l.i
