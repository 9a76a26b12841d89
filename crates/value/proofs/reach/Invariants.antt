-- `value::reach` meets its contract. Assumes nothing.
use Rattle.value.proofs.Lists.{Reaching}
use Rattle.value.proofs.reach.Given as goal

abbrev pub invariant-loop-j : goal.invariant-loop-j
invariant-loop-j l = Reaching l.words l.value l.from l.j
