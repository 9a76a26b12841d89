-- `eq_typed`: one law for each answer.
use Rattle.typing.proofs.Rulings.{eq_differ, eq_entities, eq_no, eq_same}
use Rattle.typing.proofs.nodes.eq_typed.Goals as goal

pub returns-then-sort-ne-BOOL_SORT : goal.returns-then-sort-ne-BOOL_SORT
returns-then-sort-ne-BOOL_SORT c = search eq_no

pub returns-then-x-y : goal.returns-then-x-y
returns-then-x-y c = search eq_same

pub returns-then-sort-eq-ENTITY_SORT : goal.returns-then-sort-eq-ENTITY_SORT
returns-then-sort-eq-ENTITY_SORT c = search eq_entities

pub returns : goal.returns
returns c = search eq_differ
