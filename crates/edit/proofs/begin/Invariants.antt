-- `edit::begin` meets its contract. Assumes nothing.
use Rattle.edit.proofs.Lines.{Seeking}
use Rattle.edit.proofs.begin.Given as goal

abbrev pub invariant-loop : goal.invariant-loop
invariant-loop l = Seeking l.sheet l.line l.counter l.at
