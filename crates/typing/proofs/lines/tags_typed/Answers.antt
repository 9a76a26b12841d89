-- `tags_typed`: one law for each answer.
use Rattle.typing.proofs.KeyRules.{tags_bare, tags_known, tags_sort, tags_unknown}
use Rattle.typing.proofs.lines.tags_typed.Goals as goal

pub returns-then-value-eq-MARK : goal.returns-then-value-eq-MARK
returns-then-value-eq-MARK c = search tags_unknown

pub returns-then-tag-ne-RECORD_VALUE : goal.returns-then-tag-ne-RECORD_VALUE
returns-then-tag-ne-RECORD_VALUE c = search tags_sort

pub returns-then-y-eq-MARK : goal.returns-then-y-eq-MARK
returns-then-y-eq-MARK c = search tags_bare

pub returns : goal.returns
returns c = search tags_known
