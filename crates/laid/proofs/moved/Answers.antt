-- `laid::moved` meets its contract. Assumes nothing.
use Rattle.laid.proofs.Copying.{moved_far, moved_near}
use borrow.Author.Rules.{rules}
use Rattle.laid.proofs.moved.Goals as goal

pub returns-then-place : goal.returns-then-place
returns-then-place c = search (moved_far, rules)

pub returns : goal.returns
returns c = search (moved_near, rules)
