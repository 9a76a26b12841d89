-- `evaluator::run` meets its contract. Assumes nothing.
use Rattle.table.specs.Layout.{RUN}
use lib.ListN.{length, get_or}
use mathlib.Core.Path.{◌≡◌}
use Rattle.value.specs.Clear.{Clear}
use Rattle.evaluator.proofs.Ways.{Running}
use Rattle.evaluator.proofs.run.Given as goal

abbrev pub invariant-loop-i : goal.invariant-loop-i
invariant-loop-i l = Running l.sheet l.initial.rows (get_or l.initial.rows RUN 0) l.rows l.log l.end l.i × (length l.rows ≡ length l.initial.rows) × (length l.log ≡ length l.initial.log) × Clear l.rows l.skip
