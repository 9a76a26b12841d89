-- `walk::walk_noted` meets its contract. Assumes nothing.
use Rattle.walk.proofs.Walking.{step_end, step_bad, step_missing, step_unknown, step_last, step_on}
use borrow.Author.Rules.{rules}
use Rattle.walk.proofs.walk_noted.Goals as goal

pub loop-i-preserved : goal.loop-i-preserved
loop-i-preserved c = search (step_on, rules)

pub returns : goal.returns
returns c = search (step_end, rules)

pub returns-in-Bad : goal.returns-in-Bad
returns-in-Bad c = search (step_bad, rules)

pub returns-in-Missing : goal.returns-in-Missing
returns-in-Missing c = search (step_missing, rules)

pub returns-in-Unknown : goal.returns-in-Unknown
returns-in-Unknown c = search (step_unknown, rules)

pub returns-then-i-path : goal.returns-then-i-path
returns-then-i-path c = search (step_last, rules)
