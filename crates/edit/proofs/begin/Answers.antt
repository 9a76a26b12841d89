-- `edit::begin` meets its contract. Assumes nothing.
use borrow.Author.Rules.{rules}
use Rattle.edit.proofs.Lines.{seeking_past, seeking_on, seeking_end}
use Rattle.edit.proofs.begin.Goals as goal

pub returns-then-e-sheet : goal.returns-then-e-sheet
returns-then-e-sheet c = search (seeking_past, rules)

pub loop-preserved : goal.loop-preserved
loop-preserved c = search (seeking_on, rules)

pub returns : goal.returns
returns c = search (seeking_end, rules)
