-- `words::join` meets its contract. Assumes nothing.
use Rattle.words.proofs.Bits.{joining_on, joining_end}
use native.Mathlib.Omega.{arith}
use Rattle.words.proofs.join.Goals as goal

pub loop-i-preserved : goal.loop-i-preserved
loop-i-preserved c = let l = c.loop-i in joining_on c.args.words.now c.args.other.now l.words l.i l.invariant (omega arith) (omega arith)

pub returns : goal.returns
returns c = let l = c.loop-i in joining_end c.args.words.now c.args.other.now l.words l.i l.invariant (omega arith)
