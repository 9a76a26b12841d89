-- `table::row` meets its contract. Assumes nothing.
use Rattle.table.proofs.Rows.{row_none, row_some}
use borrow.Author.Rules.{rules}
use Rattle.table.proofs.row.Goals as goal

pub returns-then-number-most : goal.returns-then-number-most
returns-then-number-most c = search (row_none, rules)

pub returns : goal.returns
returns c = search (row_some, rules)
