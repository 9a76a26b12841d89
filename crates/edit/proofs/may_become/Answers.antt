-- `edit::may_become` meets its contract. Assumes nothing.
use Rattle.std.proofs.Common.{◌∙◌, ap}
use Rattle.sheet.specs.Bytes.{same}
use Rattle.edit.proofs.Filling.{was_unknown}
use Rattle.edit.proofs.may_become.Goals as goal

pub returns-else-eq : goal.returns-else-eq
returns-else-eq c =
    let a = c.args in
    was_unknown a.old.now a.new.now c.eq.result c.eq.ensures c.if-eq.false c.eq-else-eq.result (c.eq-else-eq.ensures ∙ ap (same a.old.now) c.as_slice.ensures)
