-- `ending::first_unlinked` meets its contract. Assumes nothing.
use Rattle.ending.proofs.Finishing.{LinkedBelow}
use Rattle.ending.proofs.first_unlinked.Given as goal

abbrev pub invariant-loop-policy : goal.invariant-loop-policy
invariant-loop-policy l = LinkedBelow l.rows l.policy
