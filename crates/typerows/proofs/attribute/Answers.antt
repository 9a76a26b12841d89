-- `attribute`: of the type's row.
use Rattle.typerows.proofs.Typings.{attribute_is}
use Rattle.typerows.proofs.attribute.Goals as goal

pub returns : goal.returns
returns c = search attribute_is
