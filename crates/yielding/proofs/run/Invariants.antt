-- `yielding::run` meets its contract. Assumes nothing.
use mathlib.Core.Path.{◌≡◌}
use lib.ListN.{length}
use Rattle.yielding.proofs.Turning.{Turning}
use Rattle.yielding.proofs.run.Given as goal

abbrev pub invariant-loop-row : goal.invariant-loop-row
invariant-loop-row l = Turning l.sheet l.numbers.given l.numbers.noted.now l.lines l.initial.rows l.rows l.log l.top l.row-index × (length l.rows ≡ length l.initial.rows) × (length l.log ≡ length l.initial.log)
