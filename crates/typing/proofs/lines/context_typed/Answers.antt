-- `context_typed`: one law for each answer.
use Rattle.typing.proofs.KeyRules.{context_known, context_none, context_unknown}
use Rattle.typing.proofs.lines.context_typed.Goals as goal

pub returns-then-is_none : goal.returns-then-is_none
returns-then-is_none c = search context_none

pub returns-then-x-eq-MARK : goal.returns-then-x-eq-MARK
returns-then-x-eq-MARK c = search context_unknown

pub returns : goal.returns
returns c = search context_known
