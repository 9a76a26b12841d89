-- `value::making::TwoWords::next_place` meets its contract. Assumes nothing.
use Rattle.value.specs.Places.{Passing}
use Rattle.value.proofs.making.TwoWords.next_place.Given as goal

abbrev pub invariant-loop-i : goal.invariant-loop-i
invariant-loop-i l = Passing l.self.words.now l.self.before.now l.self.value l.self.former l.self.places.now l.from l.i
