-- `three_sorts`: one law for each answer.
use Rattle.typing.proofs.Rulings.{three_no, three_yes}
use Rattle.typing.proofs.nodes.three_sorts.Goals as goal

pub returns-then-two_sorts : goal.returns-then-two_sorts
returns-then-two_sorts c = search three_yes

pub returns : goal.returns
returns c = search three_no
