-- `like::seek` meets its contract. Assumes nothing.
use Rattle.like.proofs.Globbing.{Hunting}
use Rattle.like.proofs.seek.Given as goal

abbrev pub invariant-loop-u : goal.invariant-loop-u
invariant-loop-u l = Hunting l.piece l.bytes l.from l.u
