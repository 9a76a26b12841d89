-- `depths::depth_of_leaf` meets its contract. Assumes nothing.
use Rattle.depths.proofs.DepthLaws.{leaf_untyped, leaf_whole, value_absent, value_there}
use borrow.Author.Rules.{rules}
use Rattle.depths.proofs.depth_of_leaf.Goals as goal

pub returns-then-m-x : goal.returns-then-m-x
returns-then-m-x c = search (leaf_untyped, rules)

pub returns-then-t-ne-LIT : goal.returns-then-t-ne-LIT
returns-then-t-ne-LIT c = search (leaf_whole, rules)

pub returns-then-n-y : goal.returns-then-n-y
returns-then-n-y c = search (value_absent, rules)

pub returns : goal.returns
returns c = search (value_there, rules)
