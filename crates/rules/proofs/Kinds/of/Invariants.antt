-- `Kinds::of`: what the set has, and what is left of the kinds.
use Rattle.rules.proofs.KindSets.{Adding}
use Rattle.rules.proofs.Kinds.of.Given as goal

abbrev pub invariant-loop-kind : goal.invariant-loop-kind
invariant-loop-kind l = Adding l.row l.kind-items l.set l.kind-index
