-- `uses::Under::with` meets its contract. Assumes nothing.
use Rattle.std.proofs.Common.{ap₂}
use Rattle.uses.specs.Under.{under}
use Rattle.uses.proofs.Under.with.Goals as goal

pub returns : goal.returns
returns c = ap₂ under c.sum_of.ensures c.both_of.ensures
