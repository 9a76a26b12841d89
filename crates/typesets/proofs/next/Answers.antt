-- `next`: nothing before is a member.
use Prim.Native.Nat.{◌/◌, ◌%◌, ◌^◌}
use native.Mathlib.Omega.{arith}
use mathlib.Core.Path.{refl}
use lib.Count.{count_trailing_zeros, trailing_le}
use Rattle.typesets.proofs.FirstBit.{look_start, look_own, look_on, look_hit, look_end}
use Rattle.typesets.proofs.next.Goals as goal

pub overflow_cast-result : goal.overflow_cast-result
overflow_cast-result c = let m = trailing_le 32 (c.read.result / 2 ^ (c.args.number % 32)) in record { fits = omega (arith, m) }

pub overflow_add-result : goal.overflow_add-result
overflow_add-result c = let s = c in let m = trailing_le 32 (c.read.result / 2 ^ (s.args.number % 32)) in let n = s.requires.0 in record { fits = omega (arith, m, n) }

pub returns-then-left-ne0 : goal.returns-then-left-ne0
returns-then-left-ne0 c = let k = c in
    let s = k in
    let x = c.read.result in
    look_own s.args.set.now s.args.number x (x / 2 ^ (s.args.number % 32)) c.read.ensures refl (count_trailing_zeros 32 (x / 2 ^ (s.args.number % 32))) c.if-left-ne0.true (omega (arith, k.shared_slice_known-1.given (s.args.number / 32))) refl s.requires.1

pub loop-w-init : goal.loop-w-init
loop-w-init c = search look_start

pub overflow_cast-result-then-x-ne0 : goal.overflow_cast-result-then-x-ne0
overflow_cast-result-then-x-ne0 c = let m = trailing_le 32 c.read-x.result in record { fits = omega (arith, m) }

pub overflow_add-result-then-x-ne0 : goal.overflow_add-result-then-x-ne0
overflow_add-result-then-x-ne0 c = let m = trailing_le 32 c.read-x.result in let l = c.loop-w-test.true in record { fits = omega (arith, m, l) }

pub returns-then-x-ne0 : goal.returns-then-x-ne0
returns-then-x-ne0 c = let l = c in
    let k = l in
    let s = k in
    look_hit s.args.set.now s.args.number l.loop-w.w l.loop-w.invariant c.read-x.result c.read-x.ensures (count_trailing_zeros 32 c.read-x.result) c.if-x-ne0.true c.loop-w-test.true (omega (arith, k.shared_slice_known-1.given l.loop-w.w)) refl

pub loop-w-preserved : goal.loop-w-preserved
loop-w-preserved c = search look_on

pub returns : goal.returns
returns c = let l = c in let s = l in look_end s.args.set.now s.args.number l.loop-w.w l.loop-w.invariant c.loop-w-test.false s.requires.0
