-- `depths::depth_of_node` meets its contract. Assumes nothing.
use Rattle.depths.proofs.depth_of_node.Goals as goal

pub depth_of_two-requires : goal.depth_of_two-requires
depth_of_two-requires c = c.is_on_two.ensures c.if-is_on_two.true

pub depth_of_leaf-requires : goal.depth_of_leaf-requires
depth_of_leaf-requires c = c.is_on_none.ensures c.if-is_on_none.true

pub returns-then-is_on_none : goal.returns-then-is_on_none
returns-then-is_on_none c = let z = c.args in c.depth_of_leaf.ensures z.work.now

pub depth_of_one-requires : goal.depth_of_one-requires
depth_of_one-requires c = c.is_on_one.ensures c.if-is_on_one.true
