-- `line::put_item` meets its contract. Assumes nothing.
use native.Mathlib.Omega.{arith}
use Rattle.line.proofs.LawsItem.{put_long, put_no_long, put_one, one_low}
use Rattle.line.proofs.put_item.Goals as goal

pub returns-in_err-v : goal.returns-in_err-v
returns-in_err-v c = let a = c.args in rw c.from_residual.ensures (put_no_long a.partial a.slot a.word a.bytes.now a.rows.now c.long_of.result c.if-slot-eq-NUMBER.true c.long_of.ensures c.in_err-v.was)

pub returns-then-slot-eq-NUMBER : goal.returns-then-slot-eq-NUMBER
returns-then-slot-eq-NUMBER c = let a = c.args in (put_long a.partial a.slot a.word a.bytes.now a.rows.now c.long_of.result c.in_ok-v.v c.if-slot-eq-NUMBER.true c.long_of.ensures c.in_ok-v.was (omega arith, omega arith), omega arith)

pub overflow_cast-rows-2 : goal.overflow_cast-rows-2
overflow_cast-rows-2 c = let a = c.args in omega (arith, one_low a.partial a.slot a.word a.bytes.now a.rows.now c.one_number.result c.one_number.ensures c.in_ok-x.x c.in_ok-x.was c.if-slot-eq-NUMBER.false)

pub returns : goal.returns
returns c = let a = c.args in (put_one a.partial a.slot a.word a.bytes.now a.rows.now c.one_number.result c.one_number.ensures c.in_ok-x.x c.in_ok-x.was (omega arith, omega arith), omega arith)
