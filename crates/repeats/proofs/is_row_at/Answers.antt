-- `repeats::is_row_at` meets its contract. Assumes nothing.
use Rattle.repeats.proofs.SearchLaws.{row_otherwise, row_compared}
use borrow.Author.Rules.{rules}
use Rattle.repeats.proofs.is_row_at.Goals as goal

pub returns-then-ends-start : goal.returns-then-ends-start
returns-then-ends-start c = search (row_otherwise, rules)

pub returns : goal.returns
returns c = search (row_compared, rules)
