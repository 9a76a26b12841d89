-- `listing::nodes::node_line` meets its contract. Assumes nothing.
use Rattle.listing.proofs.NodeLines.{node_line_law}
use borrow.Author.Rules.{rules}
use Rattle.listing.proofs.nodes.node_line.Goals as goal

pub returns : goal.returns
returns c = search (node_line_law, rules)
