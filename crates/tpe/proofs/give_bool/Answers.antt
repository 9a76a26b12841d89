-- `tpe::give_bool` meets its contract. Assumes nothing.
use Rattle.tpe.proofs.Ways.{made_over}
use Rattle.tpe.proofs.give_bool.Goals as goal

pub returns : goal.returns
returns c = search made_over
