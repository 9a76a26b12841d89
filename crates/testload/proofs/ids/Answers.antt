-- `testload::ids` meets its contract. Assumes nothing.
use Rattle.testload.proofs.Loops.{ids_on}
use Rattle.std.proofs.Common.{rules}
use Rattle.testload.proofs.ids.Goals as goal

pub loop-i-preserved : goal.loop-i-preserved
loop-i-preserved c = search (ids_on, rules)
