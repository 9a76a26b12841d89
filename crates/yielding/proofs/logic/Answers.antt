-- `yielding::logic` meets its contract. Assumes nothing.
use Rattle.yielding.proofs.Turning.{logic_and, logic_or, logic_none}
use Rattle.yielding.proofs.logic.Goals as goal

pub returns-in-24 : goal.returns-in-24
returns-in-24 c = search logic_and

pub returns-in-25 : goal.returns-in-25
returns-in-25 c = search logic_or

pub returns-in_default : goal.returns-in_default
returns-in_default c = search logic_none
