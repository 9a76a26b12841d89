-- `declares`: one law for each answer.
use Rattle.typerows.proofs.Declaring.{declares_none, declares_is}
use Rattle.typerows.proofs.declares.Goals as goal

pub returns-in_default : goal.returns-in_default
returns-in_default c = search (declares_none, c.in_default.ensures)

pub returns : goal.returns
returns c = search (declares_is, c.in-Some.ensures)
