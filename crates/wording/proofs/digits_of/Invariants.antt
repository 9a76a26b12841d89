-- `wording::digits_of` meets its contract. Assumes nothing.
use Rattle.wording.proofs.Numbers.{Reading}
use Rattle.wording.proofs.digits_of.Given as goal

abbrev pub invariant-loop-x : goal.invariant-loop-x
invariant-loop-x l = Reading l.word l.n l.x-index
