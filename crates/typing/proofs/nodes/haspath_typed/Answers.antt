-- `haspath_typed`: one law for each answer.
use Rattle.typing.proofs.Rulings.{haspath_no, haspath_is}
use Rattle.typing.proofs.nodes.haspath_typed.Goals as goal

pub returns-then-sort-ne-BOOL_SORT : goal.returns-then-sort-ne-BOOL_SORT
returns-then-sort-ne-BOOL_SORT c = search haspath_no

pub returns : goal.returns
returns c = search haspath_is
