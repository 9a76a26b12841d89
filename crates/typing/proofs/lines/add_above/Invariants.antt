-- `add_above`: what is left of the kinds above joins.
use mathlib.Core.Path.{◌≡◌}
use lib.ListN.{length}
use Rattle.typing.proofs.SeenSets.{Adding}
use Rattle.typing.proofs.lines.add_above.Given as goal

abbrev pub invariant-loop-kind : goal.invariant-loop-kind
invariant-loop-kind l = Adding l.rows l.initial.above l.kind-items l.fn.kind l.above l.kind-index × (length l.above ≡ length l.initial.above)
