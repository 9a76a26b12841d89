-- `reach::index` meets its contract. Assumes nothing.
use Rattle.reach.proofs.Steps.{walk_on, walk_start}
use borrow.Author.Rules.{rules}
use Rattle.reach.proofs.index.Goals as goal

pub loop-i-init : goal.loop-i-init
loop-i-init c = search (walk_start, rules)

pub loop-i-preserved : goal.loop-i-preserved
loop-i-preserved c = search (walk_on, rules)
