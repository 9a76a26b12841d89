-- `depths::depth_from` meets its contract. Assumes nothing.
use Rattle.depths.proofs.DepthLaws.{from_other, from_line}
use borrow.Author.Rules.{rules}
use Rattle.depths.proofs.depth_from.Goals as goal

pub returns-then-slot-key : goal.returns-then-slot-key
returns-then-slot-key c = search (from_other, rules)

pub returns : goal.returns
returns c = search (from_line, rules)
