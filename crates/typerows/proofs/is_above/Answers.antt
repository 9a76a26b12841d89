-- `is_above`: the kinds above are searched.
use Rattle.typerows.proofs.Typings.{above_is}
use Rattle.typerows.proofs.is_above.Goals as goal

pub returns : goal.returns
returns c = search above_is
