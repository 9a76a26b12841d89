-- `reach::reach` meets its contract. Assumes nothing.
use mathlib.Core.Path.{refl}
use Rattle.reach.proofs.Steps.{going_end, going_less, going_on, going_open, going_place, going_start, going_there, reach_places, reach_queue}
use borrow.Author.Rules.{rules}
use Rattle.reach.proofs.reach.Goals as goal

pub index-requires : goal.index-requires
index-requires c = reach_places _ _ c.lines-n.ensures

pub see_at-end-requires : goal.see_at-end-requires
see_at-end-requires c = let x = c in
    let s = x in
    reach_queue _ 0 _ _ s.requires.in_bounds s.requires.filled.1 (search rules)

pub loop-i-init : goal.loop-i-init
loop-i-init c = let s = c in
    let x = s in
    let b = x in
    going_start _ _ _ _ _ _ _ _ b.requires.in_bounds b.requires.filled (search rules) s.see_at-end.ensures

pub bounds-queue-i : goal.bounds-queue-i
bounds-queue-i c = search (going_place, rules)

pub set_of-parents-requires : goal.set_of-parents-requires
set_of-parents-requires c = let w = c.loop-i.invariant in
    going_there _ _ _ _ _ _ _ _ _ _ w c.loop-i-test.true _ refl

pub hide-requires : goal.hide-requires
hide-requires c = c.loop-i.invariant.queue.marks

pub expand-end-requires : goal.expand-end-requires
expand-end-requires c = let h = c in
    let s = h in
    let k = s in
    let w = k.loop-i.invariant in
    let m = going_open _ _ _ _ _ _ _ _ _ _ w k.loop-i-test.true _ refl _ s.set_of-parents.ensures _ h.hide.ensures in
    record { queue = m.queue; spot = m.spot; spread = m.spread }

pub loop-i-smaller : goal.loop-i-smaller
loop-i-smaller c = search (going_less, rules)

pub loop-i-preserved : goal.loop-i-preserved
loop-i-preserved c = let e = c in
    let h = e in
    let s = h in
    let k = s in
    going_on _ _ _ _ _ _ _ _ _ _ k.loop-i.invariant k.loop-i-test.true _ refl _ s.set_of-parents.ensures _ h.hide.ensures _ _ _ _ _ e.expand-end.ensures

pub returns : goal.returns
returns c = search (going_end, rules)
