-- `dates::date_of` meets its contract. Assumes nothing.
use borrow.Author.Rules.{rules}
use Rattle.dates.proofs.Calendar.{not_ten, no_dash, no_second, a_date, no_date, no_digits}
use Rattle.dates.proofs.date_of.Goals as goal

pub returns-then-bytes-ne10 : goal.returns-then-bytes-ne10
returns-then-bytes-ne10 c = search (not_ten, rules)

pub returns-then-bytes-ne45 : goal.returns-then-bytes-ne45
returns-then-bytes-ne45 c = search (no_dash, rules)

pub returns-then-bytes-ne45-2 : goal.returns-then-bytes-ne45-2
returns-then-bytes-ne45-2 c = search (no_second, rules)

pub returns-in_err-n : goal.returns-in_err-n
returns-in_err-n c = rw c.from_residual.ensures (no_digits c.args.bytes.now c.if-bytes-ne10.false c.if-bytes-ne45.false c.if-bytes-ne45-2.false c.in_err-n.ensures)

pub returns-then-is_date : goal.returns-then-is_date
returns-then-is_date c = a_date c.args.bytes.now c.if-bytes-ne10.false c.if-bytes-ne45.false c.if-bytes-ne45-2.false c.in_ok-n.n c.in_ok-n.ensures c.is_date.result c.is_date.ensures c.if-is_date.true

pub returns : goal.returns
returns c = no_date c.args.bytes.now c.if-bytes-ne10.false c.if-bytes-ne45.false c.if-bytes-ne45-2.false c.in_ok-n.n c.in_ok-n.ensures c.is_date.result c.is_date.ensures c.if-is_date.false
