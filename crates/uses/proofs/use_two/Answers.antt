-- `uses::use_two` meets its contract. Assumes nothing.
use Rattle.uses.proofs.UseLaws.{first_twice, second_marked}
use Rattle.uses.proofs.use_two.Goals as goal

pub returns-then-use_node : goal.returns-then-use_node
returns-then-use_node c = rw c.if-use_node.true (first_twice _ _ _ c.requires _ c.item-y.ensures _ _ c.use_node.ensures c.if-use_node.true)

pub returns-else-use_node : goal.returns-else-use_node
returns-else-use_node c = second_marked _ _ _ c.requires _ c.item-y.ensures _ _ c.use_node.ensures c.if-use_node.false c.use_node.auto.work _ c.item-z.ensures _ _ c.use_node-else-use_node.ensures c.use_node-else-use_node.auto.work
