-- `tpe::steps::given_one` meets its contract. Assumes nothing.
use Rattle.tpe.proofs.Worked.{one_value, one_error, one_open}
use Rattle.tpe.proofs.steps.given_one.Goals as goal

pub returns-in-Value : goal.returns-in-Value
returns-in-Value c = search one_value

pub returns-in-Error : goal.returns-in-Error
returns-in-Error c = search one_error

pub returns-in-Open : goal.returns-in-Open
returns-in-Open c = search one_open
