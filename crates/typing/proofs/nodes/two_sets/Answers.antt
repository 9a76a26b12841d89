-- `two_sets`: one law for each answer.
use Rattle.typing.proofs.Rulings.{sets_no, sets_yes}
use Rattle.typing.proofs.nodes.two_sets.Goals as goal

pub returns-then-not-two_sorts : goal.returns-then-not-two_sorts
returns-then-not-two_sorts c = search sets_no

pub returns : goal.returns
returns c = search sets_yes
