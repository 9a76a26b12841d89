-- `tpe::steps::many` meets its contract. Assumes nothing.
use Rattle.tpe.proofs.Settling.{many_made, many_error, many_open}
use Rattle.tpe.proofs.steps.many.Goals as goal

pub returns-in-Values : goal.returns-in-Values
returns-in-Values c = search many_made

pub returns-in-Error : goal.returns-in-Error
returns-in-Error c = search many_error

pub returns-in-Open : goal.returns-in-Open
returns-in-Open c = search many_open
