-- `tpe::steps::path` meets its contract. Assumes nothing.
use Rattle.tpe.proofs.Walks.{path_value, path_error, path_open}
use Rattle.tpe.proofs.steps.path.Goals as goal

pub returns-in-Value : goal.returns-in-Value
returns-in-Value c = search path_value

pub returns-in-Error : goal.returns-in-Error
returns-in-Error c = search path_error

pub returns-in-Open : goal.returns-in-Open
returns-in-Open c = search path_open
