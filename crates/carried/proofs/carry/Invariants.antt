-- `carried::carry` meets its contract. Assumes nothing.
use Rattle.carried.proofs.Carrying.{Carrying}
use Rattle.carried.proofs.carry.Given as goal

abbrev pub invariant-loop-i : goal.invariant-loop-i
invariant-loop-i l = Carrying l.kept l.initial.rows l.initial.numbers l.rows l.numbers l.given l.i
