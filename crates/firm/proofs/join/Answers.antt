-- `firm::join` meets its contract. Assumes nothing.
use Rattle.firm.proofs.Calling.{join_refused, join_more}
use borrow.Author.Rules.{rules}
use Rattle.firm.proofs.join.Goals as goal

pub returns-then-f-ne0 : goal.returns-then-f-ne0
returns-then-f-ne0 c = search (join_refused, rules)

pub returns : goal.returns
returns c = search (join_more, rules)
