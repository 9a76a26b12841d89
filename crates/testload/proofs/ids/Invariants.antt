-- `testload::ids` meets its contract. Assumes nothing.
use Rattle.testload.proofs.Loops.{Ids}
use Rattle.testload.proofs.ids.Given as goal

abbrev pub invariant-loop-i : goal.invariant-loop-i
invariant-loop-i l = Ids l.count l.initial.out l.out l.i
