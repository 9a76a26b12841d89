-- `Memory::add_step`: by the places that are seen, or by all of them.
use Rattle.std.proofs.Common.{rules}
use Rattle.pathtypes.proofs.StepLaws.{step_seen}
use Rattle.pathtypes.proofs.Memory.add_step.Goals as goal

pub returns-then-are_seen-clause-gathered : goal.returns-then-are_seen-clause-gathered
returns-then-are_seen-clause-gathered c = search (step_seen, rules)
