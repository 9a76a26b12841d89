-- `if_typed`: one law for each answer.
use Rattle.typing.proofs.Rulings.{if_differs, if_no, if_yes}
use Rattle.typing.proofs.nodes.if_typed.Goals as goal

pub returns-then-sort-ne-BOOL_SORT : goal.returns-then-sort-ne-BOOL_SORT
returns-then-sort-ne-BOOL_SORT c = search if_no

pub returns-then-child-y : goal.returns-then-child-y
returns-then-child-y c = search if_differs

pub returns : goal.returns
returns c = search if_yes
