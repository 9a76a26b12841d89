-- `yielding::classes` meets its contract. Assumes nothing.
use mathlib.Core.Path.{◌≡◌}
use lib.ListN.{length}
use Rattle.yielding.proofs.Turning.{Classing}
use Rattle.yielding.proofs.classes.Given as goal

abbrev pub invariant-loop-i : goal.invariant-loop-i
invariant-loop-i l = Classing l.rows l.initial.log l.log l.top l.i × (length l.log ≡ length l.initial.log)
