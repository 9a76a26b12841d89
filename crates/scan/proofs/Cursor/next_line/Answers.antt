-- `scan::Cursor::next_line` meets its contract. Assumes nothing.
use Rattle.std.proofs.Common.{refl, arith, rules}
use Rattle.scan.proofs.Readings.{line_read_law}
use Rattle.scan.proofs.Starts.{line_over, line_unkeyed, line_room, line_inside, line_unclosed, line_broken, line_found_law}
use Rattle.scan.proofs.Cursor.next_line.Goals as goal

pub returns-then-at-sheet : goal.returns-then-at-sheet
returns-then-at-sheet c = line_read_law _ _ _ (search (line_over, rules))

pub returns-in_default : goal.returns-in_default
returns-in_default c = let k = c.key_at in
    let r = c in
    let a = r.args in
    line_read_law _ _ _ (line_unkeyed a.sheet.now a.self r.if-at-sheet.false r.rest-s.result.now r.rest-s.ensures k.result k.ensures.is c.in_default.is)

pub overflow_add-v : goal.overflow_add-v
overflow_add-v c = let a = c.args in let r = c.rest-s.result.now in let g = c.key_at in omega (arith, (line_room a.sheet.now a.self c.if-at-sheet.false r c.rest-s.ensures g.result g.ensures.is c.in-Some.key c.in-Some.n c.in-Some.is).0)

pub slice_bounds-v-count : goal.slice_bounds-v-count
slice_bounds-v-count c = let a = c.args in let r = c.rest-s.result.now in let g = c.key_at in omega (arith, (line_room a.sheet.now a.self c.if-at-sheet.false r c.rest-s.ensures g.result g.ensures.is c.in-Some.key c.in-Some.n c.in-Some.is).0)

pub slice_bounds-v-start : goal.slice_bounds-v-start
slice_bounds-v-start c = let a = c.args in let r = c.rest-s.result.now in let g = c.key_at in omega (arith, (line_room a.sheet.now a.self c.if-at-sheet.false r c.rest-s.ensures g.result g.ensures.is c.in-Some.key c.in-Some.n c.in-Some.is).0)

pub returns-then-e-v : goal.returns-then-e-v
returns-then-e-v c = let a = c.args in let r = c.rest-s.result.now in let g = c.key_at in let p = c.printable_end-e in line_read_law _ _ _ (line_unclosed a.sheet.now a.self c.if-at-sheet.false r c.rest-s.ensures g.result g.ensures.is c.in-Some.key c.in-Some.n c.in-Some.is _ refl p.result p.ensures c.if-e-v.true)

pub returns-then-v-e-ne10 : goal.returns-then-v-e-ne10
returns-then-v-e-ne10 c = let a = c.args in let r = c.rest-s.result.now in let g = c.key_at in let p = c.printable_end-e in line_read_law _ _ _ (line_broken a.sheet.now a.self c.if-at-sheet.false r c.rest-s.ensures g.result g.ensures.is c.in-Some.key c.in-Some.n c.in-Some.is _ refl p.result p.ensures c.if-v-e-ne10.true)

pub overflow_add-end : goal.overflow_add-end
overflow_add-end c = let a = c.args in let r = c.rest-s.result.now in let g = c.key_at in let p = c.printable_end-e in omega (arith, line_inside a.sheet.now a.self c.if-at-sheet.false r c.rest-s.ensures g.result g.ensures.is c.in-Some.key c.in-Some.n c.in-Some.is _ refl p.result p.ensures c.if-e-v.false)

pub overflow_add-end-2 : goal.overflow_add-end-2
overflow_add-end-2 c = let a = c.args in let r = c.rest-s.result.now in let g = c.key_at in let p = c.printable_end-e in omega (arith, line_inside a.sheet.now a.self c.if-at-sheet.false r c.rest-s.ensures g.result g.ensures.is c.in-Some.key c.in-Some.n c.in-Some.is _ refl p.result p.ensures c.if-e-v.false)

pub overflow_add-end-3 : goal.overflow_add-end-3
overflow_add-end-3 c = let a = c.args in let r = c.rest-s.result.now in let g = c.key_at in let p = c.printable_end-e in omega (arith, line_inside a.sheet.now a.self c.if-at-sheet.false r c.rest-s.ensures g.result g.ensures.is c.in-Some.key c.in-Some.n c.in-Some.is _ refl p.result p.ensures c.if-e-v.false)

pub overflow_add-result : goal.overflow_add-result
overflow_add-result c = let a = c.args in let r = c.rest-s.result.now in let g = c.key_at in let p = c.printable_end-e in omega (arith, line_inside a.sheet.now a.self c.if-at-sheet.false r c.rest-s.ensures g.result g.ensures.is c.in-Some.key c.in-Some.n c.in-Some.is _ refl p.result p.ensures c.if-e-v.false)

pub overflow_add-result-2 : goal.overflow_add-result-2
overflow_add-result-2 c = let a = c.args in let r = c.rest-s.result.now in let g = c.key_at in let p = c.printable_end-e in omega (arith, line_inside a.sheet.now a.self c.if-at-sheet.false r c.rest-s.ensures g.result g.ensures.is c.in-Some.key c.in-Some.n c.in-Some.is _ refl p.result p.ensures c.if-e-v.false)

pub returns : goal.returns
returns c = let a = c.args in let r = c.rest-s.result.now in let g = c.key_at in let p = c.printable_end-e in line_read_law _ _ _ (line_found_law a.sheet.now a.self c.if-at-sheet.false r c.rest-s.ensures g.result g.ensures.is c.in-Some.key c.in-Some.n c.in-Some.is _ refl p.result p.ensures c.if-v-e-ne10.false _ c.saturating_add.ensures)
