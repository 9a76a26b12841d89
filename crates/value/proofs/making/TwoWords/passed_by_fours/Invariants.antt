-- `value::making::TwoWords::passed_by_fours` meets its contract. Assumes nothing.
use Prim.Native.Nat.{◌-◌}
use lib.ListN.{length}
use Rattle.value.specs.Places.{Passing}
use Rattle.value.proofs.making.TwoWords.passed_by_fours.Given as goal

abbrev pub invariant-loop-i : goal.invariant-loop-i
invariant-loop-i l = Passing l.self.words.now l.self.before.now l.self.value l.self.former l.self.places.now l.from l.i

abbrev pub decreases-loop-i : goal.decreases-loop-i
decreases-loop-i l = length l.self.places.now - l.i
