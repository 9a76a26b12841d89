-- `tpe::steps::given_two` meets its contract. Assumes nothing.
use Rattle.tpe.proofs.Worked.{two_values, two_error, two_open}
use Rattle.tpe.proofs.steps.given_two.Goals as goal

pub returns-in-Values : goal.returns-in-Values
returns-in-Values c = search two_values

pub returns-in-Error : goal.returns-in-Error
returns-in-Error c = search two_error

pub returns-in-Open : goal.returns-in-Open
returns-in-Open c = search two_open
