-- `uses::noted` meets its contract. Assumes nothing.
use Rattle.uses.proofs.UnderLaws.{noted_none, noted_some}
use Rattle.uses.proofs.noted.Goals as goal

pub returns-then-x-count : goal.returns-then-x-count
returns-then-x-count c = noted_none _ _ _ _ c.count.ensures c.if-x-count.true

pub returns : goal.returns
returns c = noted_some _ _ _ _ c.count.ensures c.if-x-count.false _ _ c.read.ensures c.read-2.ensures
