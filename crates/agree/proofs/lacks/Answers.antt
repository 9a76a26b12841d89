-- `agree::lacks` meets its contract. Assumes nothing.
use Rattle.agree.proofs.Keys.{lack_start, lack_on}
use borrow.Author.Rules.{rules}
use Rattle.agree.proofs.lacks.Goals as goal

pub loop-key-init : goal.loop-key-init
loop-key-init c = search (lack_start, rules)

pub loop-key-preserved : goal.loop-key-preserved
loop-key-preserved c = search (lack_on, rules)
