-- `notes::chains::index` meets its contract. Assumes nothing.
use Rattle.notes.proofs.Chaining.{Chaining}
use Rattle.notes.proofs.chains.index.Given as goal

abbrev pub invariant-loop-i : goal.invariant-loop-i
invariant-loop-i l = Chaining l.rows l.initial.heads l.initial.links l.heads l.links l.n l.i l.end
