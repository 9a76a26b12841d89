-- `firm::single` meets its contract. Assumes nothing.
use Rattle.firm.proofs.Calling.{single_refused, single_first, single_second, part_room, single_decided}
use Rattle.opening.proofs.Lent.{part_long}
use borrow.Author.Rules.{rules}
use Rattle.firm.proofs.single.Goals as goal

pub returns-then-f-ne0 : goal.returns-then-f-ne0
returns-then-f-ne0 c = search (single_refused, rules)

pub returns-then-work1-lt-ROOM : goal.returns-then-work1-lt-ROOM
returns-then-work1-lt-ROOM c = search (single_first, rules)

pub returns-then-work2-lt-ROOM : goal.returns-then-work2-lt-ROOM
returns-then-work2-lt-ROOM c = search (single_second, rules)

pub slice_bounds-decided-end : goal.slice_bounds-decided-end
slice_bounds-decided-end c = search (part_long, rules)

pub slice_bounds-decided-end-3 : goal.slice_bounds-decided-end-3
slice_bounds-decided-end-3 c = search (part_long, rules)

pub decided-d-requires : goal.decided-d-requires
decided-d-requires c = let s = c in (part_room s.args.work1.now c.if-work1-lt-ROOM.false, part_long s.args.work2.now c.if-work2-lt-ROOM.false, s.requires)

pub returns : goal.returns
returns c = let d = c.decided-d in
    let t = c in
    single_decided _ _ _ _ _ t.if-f-ne0.false t.if-work1-lt-ROOM.false t.if-work2-lt-ROOM.false d.new.log d.auto.log d.result d.ensures _ c.number_of.ensures
