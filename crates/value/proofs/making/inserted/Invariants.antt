-- `value::making::inserted` meets its contract. Assumes nothing.
use Rattle.value.proofs.Inserts.{Inserting}
use Rattle.value.proofs.making.inserted.Given as goal

abbrev pub invariant-loop-i : goal.invariant-loop-i
invariant-loop-i l = Inserting l.initial.log l.at l.start l.top l.log l.p l.i
