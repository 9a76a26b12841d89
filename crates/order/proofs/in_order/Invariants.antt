-- `order::in_order` meets its contract. Assumes nothing.
use Rattle.order.proofs.OrderLaws.{Zeros}
use Rattle.order.proofs.in_order.Given as goal

abbrev pub invariant-loop-i : goal.invariant-loop-i
invariant-loop-i l = Zeros l.rows l.key l.i
