-- `tpe::steps::one` meets its contract. Assumes nothing.
use Rattle.tpe.proofs.Worked.{one_path, one_settled}
use Rattle.tpe.proofs.steps.one.Goals as goal

pub returns-then-tag-eq-HASPATH : goal.returns-then-tag-eq-HASPATH
returns-then-tag-eq-HASPATH c = search one_path

pub returns : goal.returns
returns c = search one_settled
