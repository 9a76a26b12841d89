-- `line::put_items` meets its contract. Assumes nothing.
use native.Mathlib.Omega.{arith}
use Rattle.std.proofs.Common.{refl}
use Rattle.line.proofs.LawsItems.{walk_end, walk_short, walk_long, walk_bad, walk_on, walk_again}
use Rattle.line.proofs.LawsTable.{places_are, byte_low}
use Rattle.forms.proofs.Table.{items_are, group_are, few_are, reads_as, both_small}
use Rattle.line.proofs.put_items.Goals as goal

pub overflow_add-last : goal.overflow_add-last
overflow_add-last c = omega (arith, few_are _ c.form_of-f.result c.form_of-f.ensures)

pub returns-then-j-last : goal.returns-then-j-last
returns-then-j-last c =
    let f = c.form_of-f.result in
    let e = c.form_of-f.ensures in
    walk_long _ _ _ _ _ _ _ _ _ _ _ c.loop-cursor.invariant f.items f.group (items_are _ f e) (group_are _ f e) c.loop-cursor-test.true c.if-j-last.true

pub overflow_cast-byte : goal.overflow_cast-byte
overflow_cast-byte c = omega (arith, byte_low _ _ c.byte.result c.byte.ensures)

pub returns-in_err-next : goal.returns-in_err-next
returns-in_err-next c =
    let f = c.form_of-f.result in
    let e = c.form_of-f.ensures in
    let s = c.slots_of-slots in
    let b = c.byte in
    rw c.from_residual.ensures (walk_bad _ _ _ _ _ _ _ _ _ _ _ c.loop-cursor.invariant f.items f.group (items_are _ f e) (group_are _ f e) c.loop-cursor-test.true s.result b.result _ _ _ (places_are _ s.result f (reads_as _ f e) s.ensures) b.ensures c.if-j-last.false c.in_err-next.ensures refl)

pub overflow_add-j : goal.overflow_add-j
overflow_add-j c = omega (arith, c.loop-cursor.invariant.within, both_small c.args.tag)

pub loop-cursor-preserved-then-j-last-2 : goal.loop-cursor-preserved-then-j-last-2
loop-cursor-preserved-then-j-last-2 c =
    let f = c.form_of-f.result in
    let e = c.form_of-f.ensures in
    let s = c.slots_of-slots in
    let b = c.byte in
    let x = c.in_ok-next.ensures in
    walk_again _ _ _ _ _ _ _ _ _ _ _ c.loop-cursor.invariant f.items f.group (items_are _ f e) (group_are _ f e) c.loop-cursor-test.true s.result b.result _ _ _ (places_are _ s.result f (reads_as _ f e) s.ensures) b.ensures c.if-j-last.false x.0 (λ z. omega (arith, x.1)) c.put_next.auto.rows c.if-j-last-2.true

pub loop-cursor-preserved : goal.loop-cursor-preserved
loop-cursor-preserved c =
    let f = c.form_of-f.result in
    let e = c.form_of-f.ensures in
    let s = c.slots_of-slots in
    let b = c.byte in
    let x = c.in_ok-next.ensures in
    walk_on _ _ _ _ _ _ _ _ _ _ _ c.loop-cursor.invariant f.items f.group (items_are _ f e) (group_are _ f e) c.loop-cursor-test.true s.result b.result _ _ _ (places_are _ s.result f (reads_as _ f e) s.ensures) b.ensures c.if-j-last.false x.0 (λ z. omega (arith, x.1)) c.put_next.auto.rows c.if-j-last-2.false

pub returns-then-j-n : goal.returns-then-j-n
returns-then-j-n c =
    let f = c.form_of-f.result in
    let e = c.form_of-f.ensures in
    (walk_end _ _ _ _ _ _ _ _ _ _ _ c.loop-cursor.invariant f.items f.group (items_are _ f e) (group_are _ f e) c.loop-cursor-test.false c.if-j-n.true c.requires.2, omega (arith, c.loop-cursor.invariant.grows))

pub returns : goal.returns
returns c =
    let f = c.form_of-f.result in
    let e = c.form_of-f.ensures in
    walk_short _ _ _ _ _ _ _ _ _ _ _ c.loop-cursor.invariant f.items f.group (items_are _ f e) (group_are _ f e) c.loop-cursor-test.false c.if-j-n.false
