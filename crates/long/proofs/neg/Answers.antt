-- `long::neg` meets its contract. Assumes nothing.
use Rattle.long.proofs.Longs.{long_neg, answer_more}
use Rattle.sheet.specs.Bytes.{half, long_at}
use lib.IntN.{neg_ℤ}
use Prim.Native.Nat.{◌-◌}
use native.Mathlib.Omega.{arith}
use Rattle.long.proofs.neg.Goals as goal

pub returns : goal.returns
returns c = let x = c.args in answer_more c.checked_add.result (neg_ℤ (long_at x.a)) half x.a (18446744073709551615 - x.a) _ c.checked_add.ensures (long_neg x.a) (omega arith)
