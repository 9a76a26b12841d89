-- `Kinds::of`: what the set has, and what is left of the kinds.
use Rattle.rules.proofs.KindSets.{adding_start, adding_on}
use Rattle.rules.proofs.Kinds.of.Goals as goal

pub loop-kind-init : goal.loop-kind-init
loop-kind-init c = search adding_start

pub loop-kind-preserved : goal.loop-kind-preserved
loop-kind-preserved c = search adding_on
