-- `firm::begin` meets its contract. Assumes nothing.
use Rattle.firm.proofs.Calling.{begin_first, begin_second, begin_long, begin_many, part_room, begin_refused, begin_opened}
use Rattle.opening.proofs.Lent.{part_long}
use Rattle.faults.specs.Numbers.{number_at, number_of, line_of}
use Rattle.faults.proofs.Numbering.{number_some}
use native.Mathlib.Omega.{arith}
use borrow.Author.Rules.{rules}
use Rattle.firm.proofs.begin.Goals as goal

pub returns-then-work1-lt-ROOM : goal.returns-then-work1-lt-ROOM
returns-then-work1-lt-ROOM c = search (begin_first, rules)

pub returns-then-work2-lt-ROOM : goal.returns-then-work2-lt-ROOM
returns-then-work2-lt-ROOM c = search (begin_second, rules)

pub returns-then-sheet-gt-ROOM : goal.returns-then-sheet-gt-ROOM
returns-then-sheet-gt-ROOM c = search (begin_long, rules)

pub returns-then-rows-gt-MOST_ROWS : goal.returns-then-rows-gt-MOST_ROWS
returns-then-rows-gt-MOST_ROWS c = search (begin_many, rules)

pub slice_bounds-open-end-2 : goal.slice_bounds-open-end-2
slice_bounds-open-end-2 c = search (part_long, rules)

pub slice_bounds-open-end-4 : goal.slice_bounds-open-end-4
slice_bounds-open-end-4 c = search (part_long, rules)

pub open-requires : goal.open-requires
open-requires c = search (part_room, rules)

pub returns-in-Err : goal.returns-in-Err
returns-in-Err c = let a = c.args in
    let o = c.open in
    let r = c.in-Err.refusal in
    begin_refused a.rows a.sheet.now a.work1.now a.work2.now (omega arith) (omega arith) (omega arith) (omega arith) (number_at r.fault) r.line o.new.rows o.new.work c.in-Err.ensures
    o.auto.rows o.auto.work c.refused-in-Err.result c.from.result c.refused-in-Err.ensures c.from.ensures (number_some r.fault)

pub returns : goal.returns
returns c = let a = c.args in
    let o = c.open in
    begin_opened a.rows a.sheet.now a.work1.now a.work2.now (omega arith) (omega arith) (omega arith) (omega arith) (number_of o.result) (line_of o.result) o.new.rows o.new.work o.ensures
    o.auto.rows o.auto.work (search rules)
