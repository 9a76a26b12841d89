-- `tpe::steps::taken` meets its contract. Assumes nothing.
use Rattle.tpe.proofs.Walks.{taken_none, taken_over}
use Rattle.tpe.proofs.steps.taken.Goals as goal

pub returns-then-end-lt2 : goal.returns-then-end-lt2
returns-then-end-lt2 c = search taken_none

pub returns-then-steps-end : goal.returns-then-steps-end
returns-then-steps-end c = search taken_over
