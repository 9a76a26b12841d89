-- `set_typed`: one law for each answer.
use Rattle.typing.proofs.Rulings.{set_none, set_some}
use Rattle.typing.proofs.nodes.set_typed.Goals as goal

pub returns-in_default : goal.returns-in_default
returns-in_default c = search (set_none, c.in_default.ensures)

pub returns : goal.returns
returns c = search (set_some, c.in-Some.ensures)
