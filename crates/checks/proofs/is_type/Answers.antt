-- `checks::is_type` meets its contract. Assumes nothing.
use Rattle.std.proofs.Common.{◌∙◌}
use Rattle.checks.proofs.KindLaws.{type_again, type_once}
use Rattle.checks.proofs.is_type.Goals as goal

pub returns-then-is_new : goal.returns-then-is_new
returns-then-is_new c = type_once _ _ _ c.is_new.ensures c.if-is_new.true _ c.kinds_alone.ensures

pub returns-else-is_new : goal.returns-else-is_new
returns-else-is_new c = c.if-is_new.false ∙ type_again _ _ _ c.is_new.ensures c.if-is_new.false
