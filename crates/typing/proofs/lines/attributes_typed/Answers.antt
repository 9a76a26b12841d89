-- `attributes_typed`: one law for each answer.
use Rattle.typing.proofs.KeyRules.{attributes_known, attributes_sort, attributes_unknown}
use Rattle.typing.proofs.lines.attributes_typed.Goals as goal

pub returns-then-value-eq-MARK : goal.returns-then-value-eq-MARK
returns-then-value-eq-MARK c = search attributes_unknown

pub returns-then-tag-eq-RECORD_VALUE : goal.returns-then-tag-eq-RECORD_VALUE
returns-then-tag-eq-RECORD_VALUE c = search attributes_known

pub returns : goal.returns
returns c = search attributes_sort
