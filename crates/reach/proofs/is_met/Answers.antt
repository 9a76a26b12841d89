-- `reach::is_met` meets its contract. Assumes nothing.
use Rattle.reach.proofs.Steps.{met_far, met_near, met_none}
use borrow.Author.Rules.{rules}
use Rattle.reach.proofs.is_met.Goals as goal

pub returns-then-i-met : goal.returns-then-i-met
returns-then-i-met c = search (met_near, rules)

pub returns-then-read-eq0 : goal.returns-then-read-eq0
returns-then-read-eq0 c = search (met_none, rules)

pub returns : goal.returns
returns c = search (met_far, rules)
