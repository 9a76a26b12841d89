-- `like::Search::step` meets its contract. Assumes nothing.
use Rattle.like.proofs.Globbing.{step_star, step_misses, step_holds, step_later}
use borrow.Author.Rules.{rules}
use Rattle.like.proofs.Search.step.Goals as goal

pub returns-then-e-self : goal.returns-then-e-self
returns-then-e-self c = search (step_star, step_misses, step_holds, step_later, rules)

pub returns-in-Star : goal.returns-in-Star
returns-in-Star c = search (step_star, step_misses, step_holds, step_later, rules)

pub returns-in-Misses : goal.returns-in-Misses
returns-in-Misses c = search (step_star, step_misses, step_holds, step_later, rules)

pub returns-else-e-self : goal.returns-else-e-self
returns-else-e-self c = search (step_star, step_misses, step_holds, step_later, rules)
