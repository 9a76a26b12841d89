-- `add_kinds`: what is left of the kinds is asked.
use Rattle.pathtypes.proofs.PathSets.{kinded_off, kinded_on}
use borrow.Author.Rules.{rules}
use Rattle.pathtypes.proofs.add_kinds.Goals as goal

pub returns-then-not-add_record : goal.returns-then-not-add_record
returns-then-not-add_record c = search kinded_off

pub loop-kind-preserved : goal.loop-kind-preserved
loop-kind-preserved c = (search kinded_on, search rules)
