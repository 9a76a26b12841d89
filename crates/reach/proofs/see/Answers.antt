-- `reach::see` meets its contract. Assumes nothing.
use Rattle.reach.proofs.Steps.{seeing_on}
use borrow.Author.Rules.{rules}
use Rattle.reach.proofs.see.Goals as goal

pub loop-i-preserved : goal.loop-i-preserved
loop-i-preserved c = search (seeing_on, rules)
