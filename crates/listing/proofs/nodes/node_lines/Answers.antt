-- `listing::nodes::node_lines` meets its contract. Assumes nothing.
use Rattle.listing.proofs.Printing.{printing_start}
use Rattle.listing.proofs.NodeLines.{lines_start, lines_more, lines_end}
use borrow.Author.Rules.{rules}
use Rattle.listing.proofs.nodes.node_lines.Goals as goal

pub loop-i-init : goal.loop-i-init
loop-i-init c = printing_start _ _ c.args.out.now (lines_start _ _)

pub loop-i-preserved : goal.loop-i-preserved
loop-i-preserved c = search (lines_more, rules)

pub returns : goal.returns
returns c = search (lines_end, rules)
