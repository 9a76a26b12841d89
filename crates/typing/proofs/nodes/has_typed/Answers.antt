-- `has_typed`: one law for each answer.
use Rattle.typing.proofs.Rulings.{has_no, has_kinds, has_record}
use Rattle.typing.proofs.nodes.has_typed.Goals as goal

pub returns-then-sort-ne-BOOL_SORT : goal.returns-then-sort-ne-BOOL_SORT
returns-then-sort-ne-BOOL_SORT c = search has_no

pub returns-then-tag-eq-ENTITY_TYPE : goal.returns-then-tag-eq-ENTITY_TYPE
returns-then-tag-eq-ENTITY_TYPE c = search has_kinds

pub returns : goal.returns
returns c = search has_record
