-- `scan::two` meets its contract. Assumes nothing.
use Rattle.std.proofs.Common.{arith}
use Rattle.scan.proofs.Packing.{packed_join}
use Rattle.scan.proofs.two.Goals as goal

pub returns : goal.returns
returns c = let a = c.args in packed_join a.bytes.now a.i 1 1 c.one.result c.one-2.result (omega arith) c.one.ensures c.one-2.ensures
