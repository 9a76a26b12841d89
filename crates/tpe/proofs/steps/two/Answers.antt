-- `tpe::steps::two` meets its contract. Assumes nothing.
use Rattle.tpe.proofs.Worked.{two_settled}
use Rattle.tpe.proofs.steps.two.Goals as goal

pub returns : goal.returns
returns c = search two_settled
