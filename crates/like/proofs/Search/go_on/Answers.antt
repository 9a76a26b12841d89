-- `like::Search::go_on` meets its contract. Assumes nothing.
use Rattle.like.proofs.Globbing.{glob_holds, glob_fails, glob_on, glob_less}
use borrow.Author.Rules.{rules}
use Rattle.like.proofs.Search.go_on.Goals as goal

pub loop-p-smaller : goal.loop-p-smaller
loop-p-smaller c = search (glob_less, rules)

pub loop-p-preserved : goal.loop-p-preserved
loop-p-preserved c = search (glob_on, rules)

pub returns-in-Holds : goal.returns-in-Holds
returns-in-Holds c = search (glob_holds, rules)

pub returns-in-Fails : goal.returns-in-Fails
returns-in-Fails c = search (glob_fails, rules)
