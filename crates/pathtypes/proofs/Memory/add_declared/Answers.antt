-- `Memory::add_declared`: a type that is not there is no record type.
use Rattle.pathtypes.proofs.PathSets.{declared_out}
use Rattle.pathtypes.proofs.Memory.add_declared.Goals as goal

pub returns-then-z-count-clause-gathered : goal.returns-then-z-count-clause-gathered
returns-then-z-count-clause-gathered c = search (declared_out, c.in-Some.ensures)
