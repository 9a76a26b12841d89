-- `is_ancestor`: one law for each answer.
use Rattle.typing.proofs.KeyRules.{ancestor_no, ancestor_yes}
use Rattle.typing.proofs.lines.is_ancestor.Goals as goal

pub returns-then-tag-eq-ENTITY_VALUE : goal.returns-then-tag-eq-ENTITY_VALUE
returns-then-tag-eq-ENTITY_VALUE c = search ancestor_yes

pub returns : goal.returns
returns c = search ancestor_no
