-- `attribute_type`: of the shape's row.
use Rattle.typerows.proofs.Typings.{attribute_type_is}
use Rattle.typerows.proofs.attribute_type.Goals as goal

pub returns : goal.returns
returns c = search attribute_type_is
