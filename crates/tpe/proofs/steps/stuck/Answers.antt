-- `tpe::steps::stuck` meets its contract. Assumes nothing.
use Rattle.tpe.proofs.Walks.{stuck_left, stuck_said}
use Rattle.tpe.proofs.steps.stuck.Goals as goal

pub returns-in-None : goal.returns-in-None
returns-in-None c = search stuck_left

pub returns-in-Some : goal.returns-in-Some
returns-in-Some c = search stuck_said
