-- `tpe::steps::type_of` meets its contract. Assumes nothing.
use Rattle.tpe.proofs.Worked.{node_type}
use Rattle.tpe.proofs.steps.type_of.Goals as goal

pub returns : goal.returns
returns c = search node_type
