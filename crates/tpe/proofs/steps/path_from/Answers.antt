-- `tpe::steps::path_from` meets its contract. Assumes nothing.
use Rattle.tpe.proofs.Walks.{from_holds, from_fails, from_here, from_left}
use Rattle.tpe.proofs.steps.path_from.Goals as goal

pub returns-then-j-eq0 : goal.returns-then-j-eq0
returns-then-j-eq0 c = search from_here

pub returns-in-Holds : goal.returns-in-Holds
returns-in-Holds c = search from_holds

pub returns-in-Fails : goal.returns-in-Fails
returns-in-Fails c = search from_fails

pub returns-else-j-eq0 : goal.returns-else-j-eq0
returns-else-j-eq0 c = search from_left
