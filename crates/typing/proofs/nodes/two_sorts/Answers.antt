-- `two_sorts`: one law for each answer.
use Rattle.typing.proofs.Rulings.{two_no, two_yes}
use Rattle.typing.proofs.nodes.two_sorts.Goals as goal

pub returns-then-sort-own : goal.returns-then-sort-own
returns-then-sort-own c = search two_yes

pub returns : goal.returns
returns c = search two_no
