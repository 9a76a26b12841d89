-- `join_places`: what is left of the set is asked.
use Prim.Native.Nat.{◌*◌}
use mathlib.Core.Path.{◌≡◌}
use lib.ListN.{length}
use Rattle.typesets.specs.Sets.{TYPE_WORDS}
use Rattle.typesets.proofs.SlotLaws.{Gone}
use Rattle.typesets.proofs.join_places.Given as goal

abbrev pub invariant-loop-w : goal.invariant-loop-w
invariant-loop-w l = Gone l.images l.slot l.records l.initial.reached l.reached (l.w * 32) × (length l.reached ≡ TYPE_WORDS)
