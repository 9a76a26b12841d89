-- `notes::chains::Chains::find` meets its contract. Assumes nothing.
use Rattle.notes.proofs.Chaining.{Chasing}
use Rattle.notes.proofs.chains.Chains.find.Given as goal

abbrev pub invariant-loop-left : goal.invariant-loop-left
invariant-loop-left l = Chasing l.rows l.kind l.text l.n l.left

abbrev pub decreases-loop-left : goal.decreases-loop-left
decreases-loop-left l = l.left
