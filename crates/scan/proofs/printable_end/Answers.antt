-- `scan::printable_end` meets its contract. Assumes nothing.
use Rattle.std.proofs.Common.{◌+◌, ◌-◌, ◌∙◌, ap, length, take, drop, arith, rules}
use Rattle.std.specs.Option.{unwrap_or}
use Rattle.scan.specs.Places.{plain_to}
use lib.Count.{trailing_le}
use Rattle.scan.proofs.Scans.{stepping_start, stepping_rest, stepping_on, stepping_stop, stepping_room, plain_to_found, rest_is}
use Rattle.scan.proofs.printable_end.Goals as goal

pub loop-i-init : goal.loop-i-init
loop-i-init c = search (stepping_start, rules)

pub overflow_cast-result : goal.overflow_cast-result
overflow_cast-result c = record { fits = omega (arith, trailing_le 64 c.marks-m.result) }

pub overflow_add-result : goal.overflow_add-result
overflow_add-result c = let l = c.loop-i in let a = c.args in let m = c.marks-m in record { fits = omega (arith, l.invariant.near, stepping_room a.bytes.now _ l.i l.invariant c.loop-i-test.true m.result m.ensures c.if-m-ne0.true, c.well_formed.0.0) }

pub returns-then-m-ne0 : goal.returns-then-m-ne0
returns-then-m-ne0 c = let l = c.loop-i in let a = c.args in let m = c.marks-m in stepping_stop a.bytes.now _ l.i l.invariant c.loop-i-test.true m.result m.ensures c.if-m-ne0.true

pub loop-i-preserved : goal.loop-i-preserved
loop-i-preserved c = let l = c.loop-i in let a = c.args in let m = c.marks-m in stepping_on a.bytes.now _ l.i l.invariant c.loop-i-test.true m.result m.ensures (search rules)

pub returns : goal.returns
returns c =
    let l = c.loop-i in
    let s = c.args.bytes.now in
    stepping_rest s _ l.i l.invariant _ (ap (λ n. l.i + n) (c.unwrap_or.ensures ∙ ap (λ o. unwrap_or o (length (take (length s - l.i) (drop l.i s)))) c.first_other.ensures ∙ plain_to_found (take (length s - l.i) (drop l.i s)) ∙ ap plain_to (rest_is s l.i)))
