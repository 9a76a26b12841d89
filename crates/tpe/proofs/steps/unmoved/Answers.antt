-- `tpe::steps::unmoved` meets its contract. Assumes nothing.
use Rattle.tpe.proofs.Walks.{unmoved_settled}
use Rattle.tpe.proofs.steps.unmoved.Goals as goal

pub returns : goal.returns
returns c = search unmoved_settled
