-- `node_type`: of the node's row.
use Rattle.typing.proofs.Rulings.{node_type_is}
use Rattle.typing.proofs.nodes.node_type.Goals as goal

pub returns : goal.returns
returns c = search node_type_is
