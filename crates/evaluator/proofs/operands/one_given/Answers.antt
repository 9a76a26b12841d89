-- `evaluator::operands::one_given` meets its contract. Assumes nothing.
use Rattle.evaluator.proofs.Given.{one_is, one_like, one_get, one_has, one_path, one_not, one_neg, one_empty}
use Rattle.evaluator.proofs.operands.one_given.Goals as goal

pub returns-in-39 : goal.returns-in-39
returns-in-39 c = search one_is

pub returns-in-40 : goal.returns-in-40
returns-in-40 c = search one_like

pub returns-in-41 : goal.returns-in-41
returns-in-41 c = search one_get

pub returns-in-42 : goal.returns-in-42
returns-in-42 c = search one_has

pub returns-in-43 : goal.returns-in-43
returns-in-43 c = search one_path

pub returns-in-44 : goal.returns-in-44
returns-in-44 c = search one_not

pub returns-in-45 : goal.returns-in-45
returns-in-45 c = search one_neg

pub returns-in_default : goal.returns-in_default
returns-in_default c = search one_empty
