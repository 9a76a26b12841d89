-- `edit::filled` meets its contract. Assumes nothing.
use borrow.Author.Rules.{rules}
use Rattle.edit.proofs.Filling.{filled_key, filled_items}
use Rattle.edit.proofs.filled.Goals as goal

pub returns-then-ne : goal.returns-then-ne
returns-then-ne c = search (filled_key, rules)

pub returns : goal.returns
returns c = search (filled_items, rules)
