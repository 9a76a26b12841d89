-- `uses::sum_of` meets its contract. Assumes nothing.
use Rattle.uses.proofs.UnderLaws.{sum_is}
use Rattle.uses.proofs.sum_of.Goals as goal

pub returns : goal.returns
returns c = sum_is _ _ c.min.ensures
