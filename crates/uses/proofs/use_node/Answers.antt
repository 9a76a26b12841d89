-- `uses::use_node` meets its contract. Assumes nothing.
use Rattle.uses.proofs.UseLaws.{use_other, use_none, use_twice, use_once}
use borrow.Author.Rules.{rules}
use Rattle.uses.proofs.use_node.Goals as goal

pub returns-then-slot-ne-OF_NODE : goal.returns-then-slot-ne-OF_NODE
returns-then-slot-ne-OF_NODE c = search (use_other, rules)

pub returns-then-x-count : goal.returns-then-x-count
returns-then-x-count c = search (use_none, rules)

pub returns-then-read-eq-BY_NODE : goal.returns-then-read-eq-BY_NODE
returns-then-read-eq-BY_NODE c = use_twice _ _ _ _ _ c.if-slot-ne-OF_NODE.false _ c.count.ensures c.if-x-count.false _ c.read.ensures c.if-read-eq-BY_NODE.true

pub returns : goal.returns
returns c = search (use_once, rules)
