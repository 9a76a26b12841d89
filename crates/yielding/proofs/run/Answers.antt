-- `yielding::run` meets its contract. Assumes nothing.
use Rattle.yielding.proofs.Turning.{run_end}
use Rattle.yielding.proofs.run.Goals as goal

pub returns : goal.returns
returns c = run_end _ _ _ _ _ _ _ _ _ c.loop-row.invariant.0 c.loop-row-test.false _ c.as_chunks.ensures.front
