-- `each_lacks`: what is left of the kinds decides.
use Rattle.rules.proofs.Rulings.{each_start, found_none}
use Rattle.std.proofs.Common.{rules}
use Rattle.rules.proofs.each_lacks.Goals as goal

pub loop-kind-init : goal.loop-kind-init
loop-kind-init c = (search each_start, search found_none, search rules)
