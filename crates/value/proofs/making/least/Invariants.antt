-- `value::making::least` meets its contract. Assumes nothing.
use Rattle.value.proofs.Sorting.{Lowering}
use Rattle.value.proofs.making.least.Given as goal

abbrev pub invariant-loop-line : goal.invariant-loop-line
invariant-loop-line l = Lowering l.lines l.low l.best l.line-index
