-- `evaluator::settle` meets its contract. Assumes nothing.
use Rattle.evaluator.proofs.Settles.{settle_bool, settle_long, settle_old, settle_fails}
use Rattle.evaluator.proofs.settle.Goals as goal

pub returns-in-Bool : goal.returns-in-Bool
returns-in-Bool c = search settle_bool

pub returns-in-Long : goal.returns-in-Long
returns-in-Long c = search settle_long

pub returns-in-Old : goal.returns-in-Old
returns-in-Old c = search settle_old

pub returns-in-Fails : goal.returns-in-Fails
returns-in-Fails c = search settle_fails
