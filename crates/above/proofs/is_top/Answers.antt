-- `above::is_top` meets its contract. Assumes nothing.
use Rattle.above.proofs.Tops.{none_named}
use borrow.Author.Rules.{rules}
use Rattle.above.proofs.is_top.Goals as goal

pub returns : goal.returns
returns c = search (none_named, rules)
