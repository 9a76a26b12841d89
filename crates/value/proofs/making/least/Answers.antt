-- `value::making::least` meets its contract. Assumes nothing.
use mathlib.Core.List.{[]}
use Rattle.value.proofs.Sorting.{lowering_on, lowering_end}
use Rattle.value.proofs.making.least.Goals as goal

pub loop-line-preserved : goal.loop-line-preserved
loop-line-preserved c = lowering_on _ _ _ _ c.loop-line.invariant [] _ c.loop-line-test.true c.lower-best.ensures

pub returns : goal.returns
returns c = lowering_end _ _ _ _ c.loop-line.invariant c.loop-line-test.false c.args.words.now c.as_chunks.ensures.front
