-- `tpe::steps::give_long` meets its contract. Assumes nothing.
use Rattle.tpe.proofs.Ways.{made_over}
use Rattle.tpe.proofs.steps.give_long.Goals as goal

pub returns : goal.returns
returns c = search made_over
