-- `reach::reach` meets its contract. Assumes nothing.
use Prim.Native.Nat.{◌-◌}
use lib.ListN.{length}
use Rattle.reach.specs.Marks.{line_rows}
use Rattle.reach.proofs.Steps.{Going}
use Rattle.reach.proofs.reach.Given as goal

abbrev pub invariant-loop-i : goal.invariant-loop-i
invariant-loop-i l = Going l.rows l.value l.initial.met l.initial.marks l.asked l.met l.marks l.queue l.end l.i

abbrev pub decreases-loop-i : goal.decreases-loop-i
decreases-loop-i l = length (line_rows l.rows) - l.i
