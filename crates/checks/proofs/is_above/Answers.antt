-- `checks::is_above` meets its contract. Assumes nothing.
use Rattle.std.proofs.Common.{◌∙◌, eq-eqb}
use Rattle.checks.proofs.FoundLaws.{above_first, above_last}
use Rattle.checks.proofs.is_above.Goals as goal

pub returns-then-n-eq0 : goal.returns-then-n-eq0
returns-then-n-eq0 c = eq-eqb _ 0 c.if-n-eq0.true ∙ above_first c.args.rows.now _ c.args.line.now c.requires _ c.count-n.ensures c.if-n-eq0.true

pub returns-else-n-eq0 : goal.returns-else-n-eq0
returns-else-n-eq0 c = above_last c.args.rows.now _ c.args.line.now c.requires _ c.count-n.ensures _ _ _ c.if-n-eq0.false c.row.ensures c.item.ensures c.item-else-n-eq0.ensures
