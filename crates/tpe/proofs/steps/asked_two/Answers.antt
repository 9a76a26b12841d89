-- `tpe::steps::asked_two` meets its contract. Assumes nothing.
use Rattle.tpe.proofs.Worked.{rule_silent, rule_says}
use Rattle.tpe.proofs.steps.asked_two.Goals as goal

pub returns-in-None : goal.returns-in-None
returns-in-None c = search rule_silent

pub returns-in-Some : goal.returns-in-Some
returns-in-Some c = search rule_says
