-- `is_target`: of the element's type, or the type itself.
use Rattle.typerows.proofs.Typings.{target_is}
use Rattle.typerows.proofs.is_target.Goals as goal

pub returns : goal.returns
returns c = search target_is
