-- `testload::nodes` meets its contract. Assumes nothing.
use Rattle.std.proofs.Common.{rules}
use Rattle.testload.proofs.Loops.{nodes_on}
use Rattle.testload.proofs.nodes.Goals as goal

pub loop-i-preserved : goal.loop-i-preserved
loop-i-preserved c = search (nodes_on, rules)
