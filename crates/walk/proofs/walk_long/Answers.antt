-- `walk::walk_long` meets its contract. Assumes nothing.
use Rattle.firsts.specs.declared.TheConstants.{CELLS}
use Rattle.firsts.proofs.Leading.{firsts_none}
use Rattle.walk.proofs.walk_long.Goals as goal

pub firsts-requires : goal.firsts-requires
firsts-requires c = firsts_none _ CELLS
