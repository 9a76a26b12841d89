-- `scan::marks` meets its contract. Assumes nothing.
use Rattle.std.proofs.Common.{ℕ, ◌+◌, ◌*◌, ap₂, arith, rules}
use lib.Bits.{bit_and, bit_or}
use Rattle.scan.proofs.Packing.{packed_join}
use Rattle.scan.proofs.Eights.{marked}
use Rattle.scan.proofs.marks.Goals as goal

pub returns : goal.returns
returns c = let a = c.args in
    let x = c.four in
    let y = c.four-2 in
    let p = packed_join a.bytes.now a.i 4 4 x.result y.result (omega arith) x.ensures y.ensures in
    marked a.bytes.now a.i _ _ (search rules) p (ap₂ (λ (u v : ℕ). bit_and (bit_or (bit_or u v) (x.result + 4294967296 * y.result)) 9259542123273814144) c.wrapping_add_u64-low.ensures.value c.wrapping_add_u64-high.ensures.value)
