-- `authorizer::call` meets its contract. Assumes nothing.
use Rattle.line.specs.Codes.{mode_of}
use Rattle.opening.proofs.Lent.{part_long, part_same}
use Rattle.authorizer.proofs.Calling.{call_first, call_second, call_answered}
use borrow.Author.Rules.{rules}
use Rattle.authorizer.proofs.call.Goals as goal

pub returns-then-work1-lt-ROOM : goal.returns-then-work1-lt-ROOM
returns-then-work1-lt-ROOM c = search (call_first, rules)

pub returns-then-work2-lt-ROOM : goal.returns-then-work2-lt-ROOM
returns-then-work2-lt-ROOM c = search (call_second, rules)

pub slice_bounds-answered-end-2 : goal.slice_bounds-answered-end-2
slice_bounds-answered-end-2 c = search (part_long, rules)

pub slice_bounds-answered-end-4 : goal.slice_bounds-answered-end-4
slice_bounds-answered-end-4 c = search (part_long, rules)

pub answered-r-requires : goal.answered-r-requires
answered-r-requires c = let s = c in (part_long s.args.work1.now c.if-work1-lt-ROOM.false, part_long s.args.work2.now c.if-work2-lt-ROOM.false)

pub shape_of-work1 : goal.shape_of-work1
shape_of-work1 c = let s = c in
    let a = c.answered-r in
    let x = c.clear in
    part_same s.args.work1.now c.if-work1-lt-ROOM.false a.new.rows x.new.words a.auto.rows x.auto.words

pub shape_of-work2 : goal.shape_of-work2
shape_of-work2 c = let s = c in
    let a = c.answered-r in
    let y = c.clear-2 in
    part_same s.args.work2.now c.if-work2-lt-ROOM.false a.new.work y.new.words a.auto.work y.auto.words

pub returns : goal.returns
returns c = let s = c in
    let a = c.answered-r in
    let x = c.clear in
    let y = c.clear-2 in
    call_answered (mode_of s.args.partial) s.args.sheet.now s.args.work1.now s.args.work2.now s.args.out.now c.if-work1-lt-ROOM.false c.if-work2-lt-ROOM.false
    a.result.number a.result.line a.result.length a.new.out a.new.rows a.new.work x.new.words y.new.words
    a.ensures a.auto.rows a.auto.work x.ensures y.ensures
