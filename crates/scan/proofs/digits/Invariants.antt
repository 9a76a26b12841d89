-- `scan::digits` meets its contract. Assumes nothing.
use Rattle.scan.proofs.Decimals.{Reading}
use Rattle.scan.proofs.digits.Given as goal

abbrev pub invariant-loop-x : goal.invariant-loop-x
invariant-loop-x l = Reading l.bytes l.n l.x-index
