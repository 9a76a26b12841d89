-- `value::making::is_row` meets its contract. Assumes nothing.
use Rattle.value.proofs.Passes.{row_same}
use borrow.Author.Rules.{rules}
use Rattle.value.proofs.making.is_row.Goals as goal

pub returns : goal.returns
returns c = search (row_same, rules)
