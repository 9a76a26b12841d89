-- `table::base_of` meets its contract. Assumes nothing.
use Rattle.forms.proofs.Keys.{base_is}
use borrow.Author.Rules.{rules}
use Rattle.table.proofs.base_of.Goals as goal

pub returns : goal.returns
returns c = search (base_is, rules)
