-- `ending::first_unlinked` meets its contract. Assumes nothing.
use native.Mathlib.Omega.{arith}
use Rattle.ending.proofs.Finishing.{linking_here, linking_on, linking_none}
use Rattle.ending.proofs.first_unlinked.Goals as goal

pub returns-then-is_unlinked : goal.returns-then-is_unlinked
returns-then-is_unlinked c =
    let l = c.loop-policy in
    let e = linking_here c.args.rows.now l.policy l.invariant (omega (arith, c.count-policy-end.ensures)) c.is_unlinked.result c.is_unlinked.ensures c.if-is_unlinked.true in
    (omega (arith, e, c.count-policy-end.ensures), e)

pub loop-policy-preserved : goal.loop-policy-preserved
loop-policy-preserved c =
    let l = c.loop-policy in
    linking_on c.args.rows.now l.policy l.invariant (omega (arith, c.count-policy-end.ensures)) c.is_unlinked.result c.is_unlinked.ensures c.if-is_unlinked.false

pub returns : goal.returns
returns c =
    let l = c.loop-policy in
    let e = linking_none c.args.rows.now l.policy l.invariant (omega (arith, c.count-policy-end.ensures)) in
    λ h. omega (arith, e, h, c.count-policy-end.ensures)
