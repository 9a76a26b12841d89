-- `firsts::keep_all` meets its contract. Assumes nothing.
use mathlib.Core.List.{[]}
use Rattle.firsts.proofs.Leading.{keeping_on}
use Rattle.firsts.proofs.keep_all.Goals as goal

pub loop-i-preserved : goal.loop-i-preserved
loop-i-preserved c = keeping_on _ _ _ _ _ _ _ c.loop-i.invariant c.as_chunks.ensures.front c.loop-i-test.true [] c.if-text-low.false _ c.keep.ensures
