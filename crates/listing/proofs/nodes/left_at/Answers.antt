-- `listing::nodes::left_at` meets its contract. Assumes nothing.
use Rattle.listing.proofs.NodeLines.{left_at_law}
use borrow.Author.Rules.{rules}
use Rattle.listing.proofs.nodes.left_at.Goals as goal

pub returns : goal.returns
returns c = search (left_at_law, rules)
