-- `yielding::record` meets its contract. Assumes nothing.
use Rattle.yielding.proofs.Turning.{record_made, record_error}
use Rattle.yielding.proofs.record.Goals as goal

pub returns-then-all_values : goal.returns-then-all_values
returns-then-all_values c = search record_made

pub returns : goal.returns
returns c = search record_error
