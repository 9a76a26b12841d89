-- `listing::number_after` meets its contract. Assumes nothing.
use Rattle.print.proofs.Outs.{prints_two}
use Rattle.listing.proofs.number_after.Goals as goal

pub returns : goal.returns
returns c = prints_two c.byte.ensures c.number.ensures
