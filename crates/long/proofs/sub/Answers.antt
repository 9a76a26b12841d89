-- `long::sub` meets its contract. Assumes nothing.
use Rattle.long.proofs.Longs.{long_minus, answer_less, answer_more}
use Rattle.sheet.specs.Bytes.{half, long_at}
use lib.IntN.{◌-ℤ◌}
use Prim.Native.Nat.{◌-◌}
use native.Mathlib.Omega.{arith}
use Rattle.long.proofs.sub.Goals as goal

pub returns-then-a-b : goal.returns-then-a-b
returns-then-a-b c = let x = c.args in answer_less c.checked_sub.result (long_at x.a -ℤ long_at x.b) x.a x.b half (x.b - x.a) c.checked_sub.ensures (long_minus x.a x.b) (omega arith) (omega arith)

pub returns : goal.returns
returns c = let x = c.args in answer_more c.checked_add.result (long_at x.a -ℤ long_at x.b) x.a x.b half (x.a - x.b) c.checked_add.ensures (long_minus x.a x.b) (omega arith)
