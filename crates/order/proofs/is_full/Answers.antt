-- `order::is_full` meets its contract. Assumes nothing.
use Rattle.order.proofs.OrderLaws.{full_some}
use borrow.Author.Rules.{rules}
use Rattle.order.proofs.is_full.Goals as goal

pub returns : goal.returns
returns c = search (full_some, rules)
