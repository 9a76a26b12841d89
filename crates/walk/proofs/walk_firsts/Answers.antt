-- `walk::walk_firsts` meets its contract. Assumes nothing.
use Rattle.walk.proofs.Walking.{follow_end, follow_last, follow_on}
use borrow.Author.Rules.{rules}
use Rattle.walk.proofs.walk_firsts.Goals as goal

pub loop-i-preserved : goal.loop-i-preserved
loop-i-preserved c = search (follow_on, rules)

pub returns-then-i-path : goal.returns-then-i-path
returns-then-i-path c = search (follow_last, rules)

pub returns : goal.returns
returns c = search (follow_end, rules)
