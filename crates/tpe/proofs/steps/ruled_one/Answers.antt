-- `tpe::steps::ruled_one` meets its contract. Assumes nothing.
use Rattle.tpe.proofs.Worked.{rule_one}
use Rattle.tpe.proofs.steps.ruled_one.Goals as goal

pub returns : goal.returns
returns c = search rule_one
