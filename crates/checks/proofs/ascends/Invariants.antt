-- `checks::ascends` meets its contract. Assumes nothing.
use Rattle.std.proofs.Common.{◌-◌, length}
use Rattle.checks.proofs.FoundLaws.{Rising}
use Rattle.checks.proofs.ascends.Given as goal

abbrev pub invariant-loop-j : goal.invariant-loop-j
invariant-loop-j l = Rising l.line l.j-step l.least l.j

abbrev pub decreases-loop-j : goal.decreases-loop-j
decreases-loop-j l = length l.items - l.j
