-- `testload::policies` meets its contract. Assumes nothing.
use Rattle.std.proofs.Common.{rules}
use Rattle.testload.proofs.Loops.{policies_on}
use Rattle.testload.proofs.policies.Goals as goal

pub loop-i-preserved : goal.loop-i-preserved
loop-i-preserved c = search (policies_on, rules)
