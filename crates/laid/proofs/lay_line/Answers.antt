-- `laid::lay_line` meets its contract. Assumes nothing.
use Rattle.laid.proofs.Laying.{lays_line}
use borrow.Author.Rules.{rules}
use Rattle.laid.proofs.lay_line.Goals as goal

pub returns : goal.returns
returns c = search (lays_line, rules)
