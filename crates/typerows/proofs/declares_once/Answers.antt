-- `declares_once`: one law for each answer, and what is in the set has passed.
use Rattle.typerows.proofs.Declaring.{record_passes, record_joins}
use Rattle.typerows.proofs.declares_once.Goals as goal

pub returns : goal.returns
returns c = (search record_passes, search record_joins)
