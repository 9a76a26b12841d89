-- `line_typed`: one law for each key.
use Rattle.typing.proofs.KeyRules.{line_context, line_entity, line_link, line_node}
use Rattle.typing.proofs.lines.line_typed.Goals as goal

pub returns-in-6 : goal.returns-in-6
returns-in-6 c = search line_entity

pub returns-in-10 : goal.returns-in-10
returns-in-10 c = search line_context

pub returns-in-12 : goal.returns-in-12
returns-in-12 c = search line_node

pub returns-in-14 : goal.returns-in-14
returns-in-14 c = search line_link
