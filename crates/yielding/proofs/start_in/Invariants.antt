-- `yielding::start_in` meets its contract. Assumes nothing.
use Rattle.yielding.proofs.Turning.{Backing}
use Rattle.yielding.proofs.start_in.Given as goal

abbrev pub invariant-loop-n : goal.invariant-loop-n
invariant-loop-n l = Backing l.stack l.words l.n l.left
