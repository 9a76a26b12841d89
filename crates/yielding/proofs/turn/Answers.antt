-- `yielding::turn` meets its contract. Assumes nothing.
use Rattle.yielding.proofs.Turning.{turn_value, turn_error, turn_left}
use Rattle.yielding.proofs.turn.Goals as goal

pub returns-in-0 : goal.returns-in-0
returns-in-0 c = search turn_value

pub returns-in-1 : goal.returns-in-1
returns-in-1 c = search turn_error

pub returns-in_default : goal.returns-in_default
returns-in_default c = search turn_left
