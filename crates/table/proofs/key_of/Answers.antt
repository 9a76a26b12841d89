-- `table::key_of` meets its contract. Assumes nothing.
use Rattle.forms.proofs.Table.{node_key}
use borrow.Author.Rules.{rules}
use Rattle.table.proofs.key_of.Goals as goal

pub returns-in-21-to-49 : goal.returns-in-21-to-49
returns-in-21-to-49 c = search (node_key, rules)
