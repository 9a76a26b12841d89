-- `reach::see` meets its contract. Assumes nothing.
use Prim.Native.Nat.{◌-◌}
use lib.ListN.{length}
use Rattle.reach.proofs.Steps.{Seeing}
use Rattle.reach.proofs.see.Given as goal

abbrev pub invariant-loop-i : goal.invariant-loop-i
invariant-loop-i l = Seeing l.tables.rows.now l.list l.initial.met l.initial.marks l.initial.queue l.end l.met l.marks l.queue l.e l.i

abbrev pub decreases-loop-i : goal.decreases-loop-i
decreases-loop-i l = length l.list - l.i
