-- `scan::Cursor::item` meets its contract. Assumes nothing.
use Rattle.std.proofs.Common.{arith, rules}
use Rattle.scan.proofs.Lines.{item_none, item_part}
use Rattle.scan.proofs.Readings.{item_read}
use Rattle.scan.proofs.Splits.{found_le}
use Rattle.scan.proofs.Cursor.item.Goals as goal

pub returns-then-at-bytes : goal.returns-then-at-bytes
returns-then-at-bytes c = item_read _ _ _ (search (item_none, rules))

pub overflow_add-result : goal.overflow_add-result
overflow_add-result c = let a = c.args in omega (arith, found_le 44 a.bytes.now a.self.at c.find-end.result c.if-at-bytes.false c.find-end.ensures)

pub returns : goal.returns
returns c = item_read _ _ _ (search (item_part, rules))
