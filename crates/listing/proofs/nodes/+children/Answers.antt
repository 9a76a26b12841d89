-- `listing::nodes::children` meets its contract. Assumes nothing.
use Rattle.listing.proofs.NodeLines.{children_none, children_more}
use Rattle.residual.proofs.Steps.{start_less}
use native.Mathlib.Omega.{arith}
use borrow.Author.Rules.{rules}
use Rattle.listing.proofs.nodes.+children.Goals as goal

pub returns-then-end-start : goal.returns-then-end-start
returns-then-end-start t c = search (children_none, rules)

pub children-requires : goal.children-requires
children-requires t c = let z = start_less c.args.log.now c.args.end c.start_at-q.result (omega arith) c.start_at-q.ensures in omega arith

pub returns : goal.returns
returns t c = search (children_more, rules)
