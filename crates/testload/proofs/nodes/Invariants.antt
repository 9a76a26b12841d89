-- `testload::nodes` meets its contract. Assumes nothing.
use Rattle.testload.proofs.Loops.{Going, node_lines}
use Rattle.testload.proofs.nodes.Given as goal

abbrev pub invariant-loop-i : goal.invariant-loop-i
invariant-loop-i l = Going node_lines l.seed l.count l.initial.out l.out l.state l.node l._i
