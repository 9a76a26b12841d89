-- `tpe::steps::many_by_number` meets its contract. Assumes nothing.
use mathlib.Core.Path.{subst}
use Rattle.tpe.specs.Leaves.{Ends}
use Rattle.tpe.proofs.Settling.{many_numbered}
use Rattle.tpe.proofs.steps.many_by_number.Goals as goal

pub returns : goal.returns
returns c = subst (Ends _ _ _ _) (many_numbered _ _ _ _ _ _ _ _ c.from.ensures) c.many.ensures
