-- `uses::uses_with` meets its contract. Assumes nothing.
use Rattle.uses.proofs.UnderLaws.{spent_sum}
use Rattle.uses.proofs.uses_with.Goals as goal

pub returns : goal.returns
returns c = spent_sum _ _ _ _ _ _ _ c.read.ensures c.item.ensures c.noted.ensures c.sum_of.ensures
