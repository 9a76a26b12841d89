-- `scan::place` meets its contract. Assumes nothing.
use Rattle.std.proofs.Common.{◌-◌, length}
use Rattle.scan.proofs.Wordlists.{Searching}
use Rattle.scan.proofs.place.Given as goal

abbrev pub invariant-loop-word : goal.invariant-loop-word
invariant-loop-word l = Searching l.word l.list l.i l.a

abbrev pub decreases-loop-word : goal.decreases-loop-word
decreases-loop-word l = length l.list - l.a
