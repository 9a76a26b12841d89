-- `depths::depth_of_one` meets its contract. Assumes nothing.
use Rattle.depths.proofs.DepthLaws.{one_untyped, one_first, one_absent, one_deep}
use borrow.Author.Rules.{rules}
use Rattle.depths.proofs.depth_of_one.Goals as goal

pub returns-then-m-x : goal.returns-then-m-x
returns-then-m-x c = search (one_untyped, rules)

pub returns-then-n-y : goal.returns-then-n-y
returns-then-n-y c = search (one_first, rules)

pub returns-then-k-z : goal.returns-then-k-z
returns-then-k-z c = search (one_absent, rules)

pub returns : goal.returns
returns c = search (one_deep, rules)
