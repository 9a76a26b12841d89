-- `tpe::steps::ruled_two` meets its contract. Assumes nothing.
use Rattle.tpe.proofs.Worked.{rule_two}
use Rattle.tpe.proofs.steps.ruled_two.Goals as goal

pub returns : goal.returns
returns c = search rule_two
