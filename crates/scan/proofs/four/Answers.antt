-- `scan::four` meets its contract. Assumes nothing.
use Rattle.std.proofs.Common.{arith}
use Rattle.scan.proofs.Packing.{packed_join}
use Rattle.scan.proofs.four.Goals as goal

pub returns : goal.returns
returns c = let a = c.args in packed_join a.bytes.now a.i 2 2 c.two.result c.two-2.result (omega arith) c.two.ensures c.two-2.ensures
