-- `ending::is_unlinked` meets its contract. Assumes nothing.
use Rattle.std.proofs.Common.{ap, not, ◌∙◌, eq-eqb}
use Rattle.uses.specs.declared.Under.{Under}
use Rattle.ending.proofs.Finishing.{unlinked_not, unlinked_by}
use Rattle.ending.proofs.is_unlinked.Goals as goal

pub returns-then-noted-ne-NO_SLOT : goal.returns-then-noted-ne-NO_SLOT
returns-then-noted-ne-NO_SLOT c =
    unlinked_by c.args.rows.now c.args.work.now c.requires c.args.policy _ c.row.ensures c.item-root.result c.item-root.ensures c.noted.result.slots (ap (λ (u : Under). u.slots) c.noted.ensures)
    c.if-noted-ne-NO_SLOT.true c.is_first.result c.is_first.ensures

pub returns-else-noted-ne-NO_SLOT : goal.returns-else-noted-ne-NO_SLOT
returns-else-noted-ne-NO_SLOT c =
    ap not (eq-eqb _ 0 c.if-noted-ne-NO_SLOT.false)
    ∙ unlinked_not c.args.rows.now c.args.work.now c.requires c.args.policy _ c.row.ensures c.item-root.result c.item-root.ensures c.noted.result.slots (ap (λ (u : Under). u.slots) c.noted.ensures)
    c.if-noted-ne-NO_SLOT.false
