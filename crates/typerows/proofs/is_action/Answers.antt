-- `is_action`: of the kind's row.
use Rattle.typerows.proofs.Typings.{action_is}
use Rattle.typerows.proofs.is_action.Goals as goal

pub returns : goal.returns
returns c = search action_is
