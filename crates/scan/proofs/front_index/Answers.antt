-- `scan::front_index` meets its contract. Assumes nothing.
use Rattle.std.proofs.Common.{◌+◌, ◌*◌, arith}
use Rattle.scan.proofs.Indices.{reading_first, reading_digit, reading_full}
use Rattle.scan.proofs.Lines.{leading_read}
use Rattle.scan.proofs.front_index.Goals as goal

pub returns : goal.returns
returns c =
    let s = c.args.bytes.now in
    let a = c.in_ok-a.a in
    let b = c.in-Some.b in
    let d = c.in-Some-digit_at.c in
    let e = c.in-Some-digit_at-2.d in
    let r1 = reading_first s _ c.digit_at.ensures a c.in_ok-a.was c.if-a-eq0.false in
    let r2 = reading_digit s a 1 r1 (omega (arith, (c.digit_at.ensures.there a c.in_ok-a.was).2)) _ c.digit_at-2.ensures b c.in-Some.is in
    let r3 = reading_digit s (a * 10 + b) 2 r2 (omega (arith, (c.digit_at.ensures.there a c.in_ok-a.was).2, (c.digit_at-2.ensures.there b c.in-Some.is).2)) _ c.digit_at-3.ensures d c.in-Some-digit_at.is in
    let r4 = reading_digit s ((a * 10 + b) * 10 + d) 3 r3 (omega (arith, (c.digit_at.ensures.there a c.in_ok-a.was).2, (c.digit_at-2.ensures.there b c.in-Some.is).2, (c.digit_at-3.ensures.there d c.in-Some-digit_at.is).2)) _ c.digit_at-4.ensures e c.in-Some-digit_at-2.is in
    leading_read _ _ (reading_full s (((a * 10 + b) * 10 + d) * 10 + e) 4 _ c.ended-2.ensures r4 (omega arith))
