-- `response::answer::why_line` meets its contract. Assumes nothing.
use Rattle.response.proofs.Naming.{why_named, why_none, why_nobody}
use Rattle.response.proofs.answer.why_line.Goals.{in_default-via-in-Some+else-i-count, in_default-via-in_default}
use Rattle.response.proofs.answer.why_line.Goals as goal

pub returns-in-Some : goal.returns-in-Some
returns-in-Some c = why_named _ _ _ _ _ _ c.count.ensures c.in-Some.is c.if-i-count.true c.row.ensures c.item.ensures c.bytes.ensures c.number_after.ensures c.byte.ensures

pub returns-in_default : goal.returns-in_default
returns-in_default c =
    elim c.in_default.branch [
      | in_default-via-in-Some+else-i-count w ↦ why_nobody _ _ _ _ w.count.ensures w.in-Some.is w.if-i-count.false c.bytes-in_default.ensures
      | in_default-via-in_default w ↦ why_none _ _ w.in_default.is c.bytes-in_default.ensures
    ]
