-- `tag_type`: of the shape's row.
use Rattle.typerows.proofs.Typings.{tag_type_is}
use Rattle.typerows.proofs.tag_type.Goals as goal

pub returns : goal.returns
returns c = search tag_type_is
