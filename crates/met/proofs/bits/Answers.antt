-- `met::bits` meets its contract. Assumes nothing.
use Rattle.met.proofs.Meeting.{run_bits}
use Rattle.met.proofs.bits.Goals as goal

pub returns : goal.returns
returns c = let a = c.args in run_bits a.list.now a.from
