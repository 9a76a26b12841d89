-- `evaluator::as_bool` meets its contract. Assumes nothing.
use Rattle.std.proofs.Common.{rules}
use Rattle.evaluator.proofs.Settles.{truth_is, truth_other}
use Rattle.evaluator.proofs.as_bool.Goals as goal

pub returns-in-Bool : goal.returns-in-Bool
returns-in-Bool c = search truth_is

pub returns-in_default : goal.returns-in_default
returns-in_default c = search (truth_other, rules)
