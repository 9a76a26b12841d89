-- `parents_typed`: what is left of the set decides.
use mathlib.Core.Path.{◌≡◌}
use lib.ListN.{length}
use Rattle.typesets.specs.Sets.{KIND_WORDS, Each}
use Rattle.typerows.specs.Types.{is_above_at}
use Rattle.typing.proofs.KeyRules.{Parents}
use Rattle.typing.proofs.lines.parents_typed.Given as goal

abbrev pub invariant-loop-parent : goal.invariant-loop-parent
invariant-loop-parent l = Parents l.rows l.parent-items l.value l.kind l.parent-index × Each l.above (is_above_at l.rows l.kind) × (length l.above ≡ KIND_WORDS)
