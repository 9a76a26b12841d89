-- `words::join` meets its contract. Assumes nothing.
use Rattle.words.proofs.Bits.{Joining}
use Rattle.words.proofs.join.Given as goal

abbrev pub invariant-loop-i : goal.invariant-loop-i
invariant-loop-i l = Joining l.initial.words l.other l.words l.i
