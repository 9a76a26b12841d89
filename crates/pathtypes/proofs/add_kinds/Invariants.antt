-- `add_kinds`: what is left of the kinds is asked.
use mathlib.Core.Path.{◌≡◌}
use lib.ListN.{length}
use Rattle.pathtypes.proofs.PathSets.{Kinded}
use Rattle.pathtypes.proofs.add_kinds.Given as goal

abbrev pub invariant-loop-kind : goal.invariant-loop-kind
invariant-loop-kind l = Kinded l.rows l.initial.records l.type_row l.kind-items l.records l.kind-index × (length l.records ≡ length l.initial.records)
