-- `checks::slots_given` meets its contract. Assumes nothing.
use Rattle.std.proofs.Common.{◌∙◌}
use Rattle.checks.proofs.LinkLaws.{first_off, first_on}
use Rattle.checks.proofs.slots_given.Goals as goal

pub returns-then-is_given : goal.returns-then-is_given
returns-then-is_given c =
    first_on c.args.rows.now c.args.work.now c.args.line.now c.requires _ _ _ c.item.ensures c.row.ensures c.item-root.ensures _ c.noted-slots.ensures _ c.has.ensures _ c.item-2.ensures _ c.is_given.ensures c.if-is_given.true
    _ c.has-then-is_given.ensures _ c.item-then-is_given.ensures _ c.is_given-then-is_given.ensures

pub returns-else-is_given : goal.returns-else-is_given
returns-else-is_given c =
    c.if-is_given.false ∙ first_off c.args.rows.now c.args.work.now c.args.line.now c.requires _ _ _ c.item.ensures c.row.ensures c.item-root.ensures _ c.noted-slots.ensures _ c.has.ensures _ c.item-2.ensures _ c.is_given.ensures c.if-is_given.false
