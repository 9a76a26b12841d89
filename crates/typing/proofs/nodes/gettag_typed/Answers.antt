-- `gettag_typed`: one law for each answer.
use Rattle.typing.proofs.Rulings.{gettag_no, gettag_none, gettag_some}
use Rattle.typing.proofs.nodes.gettag_typed.Goals as goal

pub returns-then-sort-ne-STRING_SORT : goal.returns-then-sort-ne-STRING_SORT
returns-then-sort-ne-STRING_SORT c = search gettag_no

pub returns-then-tag-ne-ENTITY_TYPE : goal.returns-then-tag-ne-ENTITY_TYPE
returns-then-tag-ne-ENTITY_TYPE c = search gettag_none

pub returns : goal.returns
returns c = search gettag_some
