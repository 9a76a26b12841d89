-- `table::row_at` meets its contract. Assumes nothing.
use Rattle.table.proofs.Rows.{row_at_is}
use borrow.Author.Rules.{rules}
use Rattle.table.proofs.row_at.Goals as goal

pub returns : goal.returns
returns c = search (row_at_is, rules)
