-- `long::opposed` meets its contract. Assumes nothing.
use Rattle.long.proofs.Longs.{opposite_is}
use Rattle.long.proofs.opposed.Goals as goal

pub returns : goal.returns
returns c = opposite_is c.args.a c.args.b
