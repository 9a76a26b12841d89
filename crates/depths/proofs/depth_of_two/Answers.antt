-- `depths::depth_of_two` meets its contract. Assumes nothing.
use Rattle.depths.proofs.DepthLaws.{two_untyped, two_first, two_second, two_deep}
use borrow.Author.Rules.{rules}
use Rattle.depths.proofs.depth_of_two.Goals as goal

pub returns-then-m-x : goal.returns-then-m-x
returns-then-m-x c = search (two_untyped, rules)

pub returns-then-n-y : goal.returns-then-n-y
returns-then-n-y c = search (two_first, rules)

pub returns-then-n-z : goal.returns-then-n-z
returns-then-n-z c = search (two_second, rules)

pub returns : goal.returns
returns c = search (two_deep, rules)
