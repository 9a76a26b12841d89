-- `slot_typed`: the sort of its own type.
use Rattle.typing.proofs.Rulings.{slot_is}
use Rattle.typing.proofs.nodes.slot_typed.Goals as goal

pub returns : goal.returns
returns c = search slot_is
