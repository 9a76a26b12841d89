-- `finish::agreed` meets its contract. Assumes nothing.
use Rattle.finish.proofs.Finishing.{both_ordered, breaks_at, agreed_on}
use borrow.Author.Rules.{rules}
use Rattle.finish.proofs.agreed.Goals as goal

pub breaking_line-line-requires : goal.breaking_line-line-requires
breaking_line-line-requires c = search (both_ordered, rules)

pub returns-then-line-ne0 : goal.returns-then-line-ne0
returns-then-line-ne0 c = search (breaks_at, rules)

pub returns : goal.returns
returns c = search (agreed_on, rules)
