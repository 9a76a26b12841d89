-- `Memory::add_places`: what is left of the set is asked.
use Prim.Native.Nat.{◌-◌, ◌≤◌}
use mathlib.Core.Path.{◌≡◌}
use lib.ListN.{length, get_or}
use Rattle.typesets.proofs.Members.{Walked}
use Rattle.typesets.specs.Sets.{TYPES, TYPE_WORDS}
use Rattle.pathtypes.specs.Paths.{declared_each}
use Rattle.pathtypes.proofs.Memory.add_places.Given as goal

abbrev pub invariant-loop-y : goal.invariant-loop-y
invariant-loop-y l = Walked (declared_each l.initial.self.rows.now (get_or l.initial.self.texts l.slot 0)) l.initial.reached l.records l.reached l.y × (l.self.rows.now ≡ l.initial.self.rows.now) × (l.self.texts ≡ l.initial.self.texts) × (length l.reached ≡ TYPE_WORDS) × (l.y ≤ TYPES)

abbrev pub decreases-loop-y : goal.decreases-loop-y
decreases-loop-y l = TYPES - l.y
