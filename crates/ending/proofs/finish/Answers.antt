-- `ending::finish` meets its contract. Assumes nothing.
use mathlib.Core.Path.{refl, ap}
use native.Mathlib.Omega.{arith}
use mathlib.Core.Bool.{not}
use Rattle.ending.proofs.Finishing.{unused_some, unused_none, missing, unlinked, unused, accepted}
use Rattle.ending.proofs.finish.Goals as goal

pub returns-then-not-enough_before : goal.returns-then-not-enough_before
returns-then-not-enough_before c =
    let s = c.args in
    let e = missing s.rows.now s.work.now s.next c.enough_before.result c.enough_before.ensures (ap not c.if-not-enough_before.true) in
    record { number = e.0; line = e.1 }

pub returns-in-Some : goal.returns-in-Some
returns-in-Some c =
    let s = c.args in let h = c.in-Some.ensures in
    let e = unlinked s.rows.now s.work.now s.next c.enough_before.result c.enough_before.ensures (ap not c.if-not-enough_before.false)
    c.in-Some.policy h.1 _ refl (omega (arith, h)) c.lines_before.result c.lines_before.ensures in
    record { number = e.0; line = e.1 }

pub returns-in-Some-first_unused : goal.returns-in-Some-first_unused
returns-in-Some-first_unused c =
    let s = c.args in
    let u = c.in-Some-first_unused in
    let k = unused_some s.rows.now s.work.now c.requires.0 u.node u.ensures in
    let e = unused s.rows.now s.work.now s.next c.enough_before.result c.enough_before.ensures (ap not c.if-not-enough_before.false)
    _ refl _ refl (omega (arith, c.in_default.ensures)) u.node k.0 _ refl k.1 c.lines_before-in-Some-first_unused.result c.lines_before-in-Some-first_unused.ensures in
    record { number = e.0; line = e.1 }

pub returns : goal.returns
returns c =
    let s = c.args in
    let e = accepted s.rows.now s.work.now s.next c.enough_before.result c.enough_before.ensures (ap not c.if-not-enough_before.false)
    _ refl _ refl (omega (arith, c.in_default.ensures)) _ refl _ refl (unused_none s.rows.now s.work.now c.requires.0 c.in_default-first_unused.ensures) in
    record { number = e.0; line = e.1 }
