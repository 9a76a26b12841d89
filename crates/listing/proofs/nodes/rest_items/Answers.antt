-- `listing::nodes::rest_items` meets its contract. Assumes nothing.
use Rattle.listing.proofs.NodeLines.{rest_second, rest_like, rest_path, rest_over}
use borrow.Author.Rules.{rules}
use native.Mathlib.Omega.{arith}
use Rattle.listing.proofs.nodes.rest_items.Goals.{in-39-1, in_default+else-this-lt39+then-this-lt43}
use Rattle.listing.proofs.nodes.rest_items.Goals as goal

pub returns-in-40 : goal.returns-in-40
returns-in-40 c = search (rest_like, rules)

pub returns-in-43 : goal.returns-in-43
returns-in-43 c = search (rest_path, rules)

pub returns-in-39 : goal.returns-in-39
returns-in-39 c =
    let x = c.args in
    elim c.in-39-1.branch [
      | in-39-1 w ↦ rest_second _ x.line.now x.passed c.tag.ensures (omega arith) (omega arith) (omega arith) c.second.ensures
      | in_default+else-this-lt39+then-this-lt43 w ↦ rest_second _ x.line.now x.passed c.tag.ensures (omega arith) (omega arith) (omega arith) c.second.ensures
    ]

pub returns-in_default : goal.returns-in_default
returns-in_default c = let x = c.args in rest_over _ x.line.now x.passed c.tag.ensures (omega arith) (omega arith) (omega arith) (omega arith) (omega arith)

pub returns-in_default-2 : goal.returns-in_default-2
returns-in_default-2 c = let x = c.args in rest_over _ x.line.now x.passed c.tag.ensures (omega arith) (omega arith) (omega arith) (omega arith) (omega arith)
