-- `tpe::steps::push_rest` meets its contract. Assumes nothing.
use Rattle.tpe.proofs.Walks.{rest_put}
use Rattle.tpe.proofs.steps.push_rest.Goals as goal

pub returns : goal.returns
returns c = search rest_put
