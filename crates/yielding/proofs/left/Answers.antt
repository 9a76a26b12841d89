-- `yielding::left` meets its contract. Assumes nothing.
use Rattle.yielding.proofs.Turning.{left_var, left_set, left_record, left_over}
use Rattle.yielding.proofs.left.Goals as goal

pub returns-in-23 : goal.returns-in-23
returns-in-23 c = search left_var

pub returns-in-47 : goal.returns-in-47
returns-in-47 c = search left_set

pub returns-in-48 : goal.returns-in-48
returns-in-48 c = search left_record

pub returns-in_default : goal.returns-in_default
returns-in_default c = search left_over
