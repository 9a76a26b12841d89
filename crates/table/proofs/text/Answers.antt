-- `table::text` meets its contract. Assumes nothing.
use Rattle.table.proofs.Rows.{text_is}
use borrow.Author.Rules.{rules}
use Rattle.table.proofs.text.Goals as goal

pub returns : goal.returns
returns c = search (text_is, rules)
