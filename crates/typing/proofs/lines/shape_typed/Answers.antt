-- `shape_typed`: one law for each answer.
use Rattle.typing.proofs.KeyRules.{shape_bare, shape_full, shape_none, shape_plain}
use Rattle.typing.proofs.lines.shape_typed.Goals as goal

pub returns-in_default : goal.returns-in_default
returns-in_default c = search (shape_none, c.in_default.ensures)

pub returns-then-not-is_action : goal.returns-then-not-is_action
returns-then-not-is_action c = search (shape_plain, c.in-Some.ensures)

pub returns-then-not-is_bare : goal.returns-then-not-is_bare
returns-then-not-is_bare c = search (shape_full, c.in-Some.ensures)

pub returns : goal.returns
returns c = search (shape_bare, c.in-Some.ensures)
