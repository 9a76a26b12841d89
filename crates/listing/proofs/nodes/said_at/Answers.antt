-- `listing::nodes::said_at` meets its contract. Assumes nothing.
use Rattle.listing.proofs.NodeLines.{said_value, said_error, said_left}
use borrow.Author.Rules.{rules}
use Rattle.listing.proofs.nodes.said_at.Goals as goal

pub returns-in-Value : goal.returns-in-Value
returns-in-Value c = search (said_value, rules)

pub returns-in-Error : goal.returns-in-Error
returns-in-Error c = search (said_error, rules)

pub returns-in-Open : goal.returns-in-Open
returns-in-Open c = search (said_left, rules)
