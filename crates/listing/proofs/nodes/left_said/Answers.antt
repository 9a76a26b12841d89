-- `listing::nodes::left_said` meets its contract. Assumes nothing.
use Rattle.listing.proofs.NodeLines.{left_said_law}
use borrow.Author.Rules.{rules}
use Rattle.listing.proofs.nodes.left_said.Goals as goal

pub returns : goal.returns
returns c = search (left_said_law, rules)
