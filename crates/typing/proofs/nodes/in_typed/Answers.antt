-- `in_typed`: one law for each answer.
use Rattle.typing.proofs.Rulings.{in_no, in_yes}
use Rattle.typing.proofs.nodes.in_typed.Goals as goal

pub returns-then-not-two_sorts : goal.returns-then-not-two_sorts
returns-then-not-two_sorts c = search in_no

pub returns : goal.returns
returns c = search in_yes
