-- `like::last` meets its contract. Assumes nothing.
use Rattle.like.proofs.Joining.{last_short, last_holds, last_fails}
use borrow.Author.Rules.{rules}
use Rattle.like.proofs.last.Goals as goal

pub returns-then-piece-bytes : goal.returns-then-piece-bytes
returns-then-piece-bytes c = search (last_short, rules)

pub returns-then-begins : goal.returns-then-begins
returns-then-begins c = search (last_holds, rules)

pub returns : goal.returns
returns c = search (last_fails, rules)
