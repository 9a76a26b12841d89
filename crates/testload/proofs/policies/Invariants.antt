-- `testload::policies` meets its contract. Assumes nothing.
use Rattle.drawn.specs.TestLoad.{policies_from}
use Rattle.testload.proofs.Loops.{Going}
use Rattle.testload.proofs.policies.Given as goal

abbrev pub invariant-loop-i : goal.invariant-loop-i
invariant-loop-i l = Going policies_from l.seed l.count l.initial.out l.out l.state l.node l.i
