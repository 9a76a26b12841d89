-- `ending::lines_before` meets its contract. Assumes nothing.
use Rattle.ending.proofs.Finishing.{summed_on, summed_end}
use native.Mathlib.Omega.{arith}
use borrow.Author.Rules.{rules}
use Rattle.ending.proofs.lines_before.Goals as goal

pub loop-k-preserved : goal.loop-k-preserved
loop-k-preserved c = search (summed_on, rules)

pub returns : goal.returns
returns c = let l = c.loop-k in
    let a = c.args in
    summed_end a.rows.now a.key l.lines l.k l.invariant (omega arith)
