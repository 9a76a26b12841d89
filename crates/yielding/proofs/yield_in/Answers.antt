-- `yielding::yield_in` meets its contract. Assumes nothing.
use Rattle.yielding.proofs.Turning.{in_value, in_error}
use Rattle.yielding.proofs.yield_in.Goals as goal

pub returns-then-read-eq-VALUE_ROW : goal.returns-then-read-eq-VALUE_ROW
returns-then-read-eq-VALUE_ROW c = search in_value

pub returns : goal.returns
returns c = search in_error
