-- `Memory::add_places`: what is left of the set is asked.
use Rattle.pathtypes.proofs.StepLaws.{places_end}
use Rattle.pathtypes.proofs.Memory.add_places.Goals as goal

pub returns-clause-gathered : goal.returns-clause-gathered
returns-clause-gathered c = search places_end
