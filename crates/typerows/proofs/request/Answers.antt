-- `request`: of the line's row.
use Rattle.typerows.proofs.Typings.{request_at_is}
use Rattle.typerows.proofs.request.Goals as goal

pub returns : goal.returns
returns c = search request_at_is
