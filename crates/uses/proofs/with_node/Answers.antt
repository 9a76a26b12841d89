-- `uses::with_node` meets its contract. Assumes nothing.
use Rattle.uses.proofs.UnderLaws.{node_other, node_more}
use borrow.Author.Rules.{rules}
use Rattle.uses.proofs.with_node.Goals as goal

pub returns-then-slot-ne-OF_NODE : goal.returns-then-slot-ne-OF_NODE
returns-then-slot-ne-OF_NODE c = search (node_other, rules)

pub returns : goal.returns
returns c = search (node_more, rules)
