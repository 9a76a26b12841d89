-- `yielding::set` meets its contract. Assumes nothing.
use Rattle.yielding.proofs.Turning.{set_made, set_error}
use Rattle.yielding.proofs.set.Goals as goal

pub returns-then-all_values : goal.returns-then-all_values
returns-then-all_values c = search set_made

pub returns : goal.returns
returns c = search set_error
