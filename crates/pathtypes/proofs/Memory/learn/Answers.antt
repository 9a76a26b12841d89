-- `Memory::learn`: the set of a type is made and kept.
use Rattle.std.proofs.Common.{rules}
use Rattle.pathtypes.proofs.KnownSets.{learn_own, learn_kept}
use Rattle.pathtypes.proofs.Memory.learn.Goals as goal

pub invariant_of-self : goal.invariant_of-self
invariant_of-self c = record { few = search rules; learned = search learn_kept; looked = search rules }

pub returns-clause-set : goal.returns-clause-set
returns-clause-set c = search learn_own
