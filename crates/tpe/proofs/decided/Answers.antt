-- `tpe::decided` meets its contract. Assumes nothing.
use Rattle.tpe.proofs.Ways.{decided_made, decided_kept}
use Rattle.tpe.proofs.decided.Goals as goal

pub returns-then-can_error : goal.returns-then-can_error
returns-then-can_error c = search decided_kept

pub returns : goal.returns
returns c = search decided_made
