-- `scan::Cursor::number` meets its contract. Assumes nothing.
use Rattle.std.proofs.Common.{arith, rules}
use Rattle.scan.proofs.Lines.{number_over, number_value, number_room, number_other}
use Rattle.scan.proofs.Readings.{number_read}
use Rattle.scan.proofs.Cursor.number.Goals as goal

pub returns-then-at-bytes : goal.returns-then-at-bytes
returns-then-at-bytes c = number_read _ _ _ (search (number_over, rules))

pub returns-in_err-n : goal.returns-in_err-n
returns-in_err-n c = number_read _ _ _ (search (number_other, rules))

pub overflow_add-next : goal.overflow_add-next
overflow_add-next c =
    let a = c.args in
    let d = c.in_ok-n in
    omega (arith, number_room a.bytes.now a.self c.if-at-bytes.false c.rest.result.now c.rest.ensures c.front_index.result c.front_index.ensures d.n d.taken d.was)

pub overflow_add-next-2 : goal.overflow_add-next-2
overflow_add-next-2 c =
    let a = c.args in
    let d = c.in_ok-n in
    omega (arith, number_room a.bytes.now a.self c.if-at-bytes.false c.rest.result.now c.rest.ensures c.front_index.result c.front_index.ensures d.n d.taken d.was)

pub returns : goal.returns
returns c = number_read _ _ _ (search (number_value, rules))
