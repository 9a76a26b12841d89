-- `is_ancestor_by`: one law for each answer.
use Rattle.typing.proofs.KeyRules.{ancestor_no, ancestor_yes}
use Rattle.typing.proofs.SeenSets.{ancestor_seen}
use Rattle.typing.proofs.lines.is_ancestor_by.Goals as goal

pub returns-then-tag-ne-ENTITY_VALUE : goal.returns-then-tag-ne-ENTITY_VALUE
returns-then-tag-ne-ENTITY_VALUE c = search ancestor_no

pub returns-then-has : goal.returns-then-has
returns-then-has c = search ancestor_seen

pub returns : goal.returns
returns c = search ancestor_yes
