-- `scan::one` meets its contract. Assumes nothing.
use Rattle.std.proofs.Common.{arith}
use Rattle.scan.proofs.Packing.{packed_one}
use Rattle.scan.proofs.one.Goals as goal

pub overflow_cast-result : goal.overflow_cast-result
overflow_cast-result c = omega (arith, c.shared_slice_known-1.given c.args.i)

pub returns : goal.returns
returns c = packed_one c.args.bytes.now c.args.i (omega arith) (λ j. omega (arith, c.shared_slice_known-1.given j))
