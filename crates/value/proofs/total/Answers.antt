-- `value::total` meets its contract. Assumes nothing.
use Rattle.value.proofs.Shaped.{total_is}
use borrow.Author.Rules.{rules}
use Rattle.value.proofs.total.Goals as goal

pub returns : goal.returns
returns c = search (total_is, rules)
