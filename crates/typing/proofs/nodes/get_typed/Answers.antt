-- `get_typed`: one law for each answer.
use Rattle.typing.proofs.Rulings.{get_kinds, get_record}
use Rattle.typing.proofs.nodes.get_typed.Goals as goal

pub returns-then-tag-eq-ENTITY_TYPE : goal.returns-then-tag-eq-ENTITY_TYPE
returns-then-tag-eq-ENTITY_TYPE c = search get_kinds

pub returns : goal.returns
returns c = search get_record
