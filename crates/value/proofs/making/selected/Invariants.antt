-- `value::making::selected` meets its contract. Assumes nothing.
use lib.ListN.{length}
use Rattle.cedar.specs.Making.{sort_n}
use Rattle.words.specs.Log.{part}
use Rattle.value.specs.Made.{values_in}
use Rattle.value.proofs.Sorting.{from_n}
use Rattle.value.proofs.Fills.{Filling}
use Rattle.value.proofs.making.selected.Given as goal

abbrev pub invariant-loop-x : goal.invariant-loop-x
invariant-loop-x l = Filling l.initial.log l.at l.start l.top l.log l.p l.lo

abbrev pub decreases-loop-x : goal.decreases-loop-x
decreases-loop-x l = length (from_n l.lo (sort_n (values_in (part l.initial.log l.start l.top))))
