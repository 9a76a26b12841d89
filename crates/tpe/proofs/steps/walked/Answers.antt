-- `tpe::steps::walked` meets its contract. Assumes nothing.
use Rattle.tpe.proofs.Walks.{walked_none, walked_some}
use Rattle.tpe.proofs.steps.walked.Goals as goal

pub returns-then-l-eq0 : goal.returns-then-l-eq0
returns-then-l-eq0 c = search walked_none

pub returns : goal.returns
returns c = search walked_some
