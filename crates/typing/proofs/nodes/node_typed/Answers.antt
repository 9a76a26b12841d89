-- `node_typed`: one law for each answer.
use Rattle.typing.proofs.Operations.{node_lit, node_past}
use Rattle.typing.proofs.nodes.node_typed.Goals as goal

pub returns-then-op-le-LIT : goal.returns-then-op-le-LIT
returns-then-op-le-LIT c = search node_lit

pub returns : goal.returns
returns c = search node_past
