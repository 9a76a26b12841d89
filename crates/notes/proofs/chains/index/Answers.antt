-- `notes::chains::index` meets its contract. Assumes nothing.
use Rattle.notes.proofs.Chaining.{chaining_start, chaining_on}
use borrow.Author.Rules.{rules}
use Rattle.notes.proofs.chains.index.Goals as goal

pub loop-i-init : goal.loop-i-init
loop-i-init c = search (chaining_start, rules)

pub loop-i-preserved : goal.loop-i-preserved
loop-i-preserved c = search (chaining_on, rules)
