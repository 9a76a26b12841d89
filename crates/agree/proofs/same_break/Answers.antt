-- `agree::same_break` meets its contract. Assumes nothing.
use Rattle.agree.proofs.Alike.{same_none, same_some}
use borrow.Author.Rules.{rules}
use Rattle.agree.proofs.same_break.Goals as goal

pub returns-then-n-count : goal.returns-then-n-count
returns-then-n-count c = search (same_none, rules)

pub returns : goal.returns
returns c = search (same_some, rules)
