-- `long::add` meets its contract. Assumes nothing.
use Rattle.long.proofs.Longs.{long_add, answer_less, answer_more}
use Rattle.sheet.specs.Bytes.{half, long_at}
use lib.IntN.{◌+ℤ◌}
use Prim.Native.Nat.{◌+◌, ◌-◌}
use native.Mathlib.Omega.{arith}
use Rattle.long.proofs.add.Goals as goal

pub returns-then-a-lt-HALF : goal.returns-then-a-lt-HALF
returns-then-a-lt-HALF c = let x = c.args in answer_less c.checked_sub.result (long_at x.a +ℤ long_at x.b) (x.a + x.b) 18446744073709551616 x.b _ c.checked_sub.ensures (long_add x.a x.b) (omega arith) (omega arith)

pub returns : goal.returns
returns c = let x = c.args in answer_more c.checked_add.result (long_at x.a +ℤ long_at x.b) (x.a + x.b) 18446744073709551616 x.b (x.a - half) c.checked_add.ensures (long_add x.a x.b) (omega arith)
