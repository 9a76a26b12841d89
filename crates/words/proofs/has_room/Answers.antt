-- `words::has_room` meets its contract. Assumes nothing.
use Rattle.words.specs.Log.{has_room}
use Rattle.std.proofs.Common.{arith}
use Rattle.std.proofs.lemmas.Bool.Decides.{nat_tests}
use Rattle.words.proofs.has_room.Goals as goal

pub returns : goal.returns
unfolding has_room
returns c = grind (arith, nat_tests)
