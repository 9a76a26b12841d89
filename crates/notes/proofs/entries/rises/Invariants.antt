-- `notes::entries::rises` meets its contract. Assumes nothing.
use Prim.Native.Nat.{◌-◌}
use lib.ListN.{length, drop}
use Rattle.value.proofs.Lists.{Going}
use Rattle.notes.specs.Leaps.{rising}
use Rattle.notes.proofs.entries.rises.Given as goal

abbrev pub invariant-loop-i : goal.invariant-loop-i
invariant-loop-i l = Going (rising 0 l.words) (rising l.low (drop l.i l.words)) l.i (length l.words)

abbrev pub decreases-loop-i : goal.decreases-loop-i
decreases-loop-i l = length l.words - l.i
