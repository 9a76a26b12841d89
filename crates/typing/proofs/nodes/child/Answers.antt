-- `child`: of the node that the word names.
use Rattle.typing.proofs.Rulings.{child_is}
use Rattle.typing.proofs.nodes.child.Goals as goal

pub returns : goal.returns
returns c = search child_is
