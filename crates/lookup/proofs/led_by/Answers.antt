-- `lookup::led_by` meets its contract. Assumes nothing.
use native.Mathlib.Omega.{arith}
use Rattle.lookup.proofs.Halving.{halving_on, halving_end}
use Rattle.lookup.proofs.led_by.Goals as goal

pub loop-preserved : goal.loop-preserved
loop-preserved c = halving_on _ _ _ _ _ c.loop.invariant _ (omega arith) _ c.nearer-line.ensures

pub returns : goal.returns
returns c = halving_end _ _ _ _ _ c.loop.invariant (omega arith)
