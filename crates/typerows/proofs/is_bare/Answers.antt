-- `is_bare`: by the length of the row.
use Rattle.typerows.proofs.Typings.{bare_is}
use Rattle.typerows.proofs.is_bare.Goals as goal

pub returns : goal.returns
returns c = search bare_is
