-- `contains_typed`: one law for each answer.
use Rattle.typing.proofs.Rulings.{contains_no, contains_none, contains_some}
use Rattle.typing.proofs.nodes.contains_typed.Goals as goal

pub returns-then-sort-ne-BOOL_SORT : goal.returns-then-sort-ne-BOOL_SORT
returns-then-sort-ne-BOOL_SORT c = search contains_no

pub returns-in_default : goal.returns-in_default
returns-in_default c = search (contains_none, c.in_default.ensures)

pub returns : goal.returns
returns c = search (contains_some, c.in-Some.ensures)
