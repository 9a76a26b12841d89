-- `scan::printable_end` meets its contract. Assumes nothing.
use Rattle.std.proofs.Common.{◌-◌, length}
use Rattle.scan.specs.Places.{plain_to}
use Rattle.scan.proofs.Scans.{Stepping}
use Rattle.scan.proofs.printable_end.Given as goal

abbrev pub invariant-loop-i : goal.invariant-loop-i
invariant-loop-i l = Stepping l.bytes (plain_to l.bytes) l.i

abbrev pub decreases-loop-i : goal.decreases-loop-i
decreases-loop-i l = length l.bytes - l.i
