-- `like::seek` meets its contract. Assumes nothing.
use Rattle.like.proofs.Globbing.{hunt_short, hunt_end, hunt_hit, hunt_on}
use borrow.Author.Rules.{rules}
use Rattle.like.proofs.seek.Goals as goal

pub loop-u-preserved : goal.loop-u-preserved
loop-u-preserved c = search (hunt_on, rules)

pub returns-then-bytes-u : goal.returns-then-bytes-u
returns-then-bytes-u c = search (hunt_short, rules)

pub returns-then-begins : goal.returns-then-begins
returns-then-begins c = search (hunt_hit, rules)

pub returns-after-loop-u : goal.returns-after-loop-u
returns-after-loop-u c = search (hunt_end, rules)
