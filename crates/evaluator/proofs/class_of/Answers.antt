-- `evaluator::class_of` meets its contract. Assumes nothing.
use Rattle.evaluator.proofs.Settles.{class_error, class_value}
use Rattle.evaluator.proofs.class_of.Goals as goal

pub returns-in-Ok : goal.returns-in-Ok
returns-in-Ok c = search class_value

pub returns-in-Err : goal.returns-in-Err
returns-in-Err c = search class_error
