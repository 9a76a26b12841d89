-- `join_word`: what is left of the word is asked.
use Prim.Native.Nat.{◌<◌}
use mathlib.Core.Path.{◌≡◌}
use lib.ListN.{length}
use Rattle.typesets.specs.Sets.{TYPE_WORDS}
use Rattle.typesets.proofs.SlotLaws.{Worded}
use Rattle.typesets.proofs.join_word.Given as goal

abbrev pub invariant-loop-x : goal.invariant-loop-x
invariant-loop-x l = Worded l.images l.first l.word l.own l.x × (length l.own ≡ TYPE_WORDS) × (l.x < 4294967296)

abbrev pub decreases-loop-x : goal.decreases-loop-x
decreases-loop-x l = l.x
