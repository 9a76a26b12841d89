-- `above::any_value` meets its contract. Assumes nothing.
use mathlib.Core.Path.{◌≡◌}
use lib.ListN.{length}
use Rattle.reach.proofs.Steps.{Asking}
use Rattle.typesets.specs.Sets.{KIND_WORDS, Each}
use Rattle.typerows.specs.Types.{is_above_at}
use Rattle.above.specs.Fitting.{unfit_value}
use Rattle.above.proofs.any_value.Given as goal

abbrev pub invariant-loop-i : goal.invariant-loop-i
invariant-loop-i l = Asking (unfit_value l.rows l.kind) l.met (length l.met) l.i-end l.i × Each l.above (is_above_at l.rows l.kind) × (length l.above ≡ KIND_WORDS)
