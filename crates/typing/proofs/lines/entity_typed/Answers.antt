-- `entity_typed`: one law for each answer.
use Rattle.typing.proofs.KeyRules.{entity_parents, entity_attributes, entity_no, entity_tags}
use Rattle.typing.proofs.lines.entity_typed.Goals as goal

pub returns-then-tag-ne-ENTITY_VALUE : goal.returns-then-tag-ne-ENTITY_VALUE
returns-then-tag-ne-ENTITY_VALUE c = search entity_no

pub returns-then-not-attributes_typed : goal.returns-then-not-attributes_typed
returns-then-not-attributes_typed c = search entity_attributes

pub returns-then-not-tags_typed : goal.returns-then-not-tags_typed
returns-then-not-tags_typed c = search entity_tags

pub returns : goal.returns
returns c = search entity_parents
