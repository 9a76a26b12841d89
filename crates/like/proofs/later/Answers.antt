-- `like::later` meets its contract. Assumes nothing.
use Rattle.like.proofs.Globbing.{later_on, later_fails}
use borrow.Author.Rules.{rules}
use Rattle.like.proofs.later.Goals as goal

pub returns-then-at-bytes : goal.returns-then-at-bytes
returns-then-at-bytes c = search (later_on, rules)

pub returns : goal.returns
returns c = search (later_fails, rules)
