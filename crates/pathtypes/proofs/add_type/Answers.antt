-- `add_type`: by the tag.
use Rattle.pathtypes.proofs.PathSets.{type_kinds, type_record}
use Rattle.pathtypes.proofs.add_type.Goals as goal

pub returns-then-tag-eq-ENTITY_TYPE : goal.returns-then-tag-eq-ENTITY_TYPE
returns-then-tag-eq-ENTITY_TYPE c = search type_kinds

pub returns : goal.returns
returns c = search type_record
