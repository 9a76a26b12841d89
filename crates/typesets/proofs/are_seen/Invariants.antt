-- `are_seen`: a word of the set is in the word of the slot.
use Prim.Native.Nat.{◌*◌}
use Rattle.typesets.specs.Sets.{TYPE_WORDS}
use Rattle.typesets.proofs.SlotLaws.{Below}
use Rattle.typesets.proofs.are_seen.Given as goal

abbrev pub invariant-loop-w : goal.invariant-loop-w
invariant-loop-w l = Below l.seen l.records l.slot (l.w * 32)
