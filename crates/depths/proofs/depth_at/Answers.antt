-- `depths::depth_at` meets its contract. Assumes nothing.
use Rattle.depths.proofs.DepthLaws.{depth_none, depth_type, depth_value, depth_node, depth_leaf}
use borrow.Author.Rules.{rules}
use Rattle.depths.proofs.depth_at.Goals as goal

pub returns-then-number-count : goal.returns-then-number-count
returns-then-number-count c = search (depth_none, rules)

pub returns-in-3 : goal.returns-in-3
returns-in-3 c = search (depth_type, rules)

pub returns-in-5 : goal.returns-in-5
returns-in-5 c = search (depth_value, rules)

pub returns-in-12 : goal.returns-in-12
returns-in-12 c = search (depth_node, rules)

pub returns-in_default : goal.returns-in_default
returns-in_default c = search (depth_leaf, rules)
