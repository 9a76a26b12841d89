-- `lookup::is_line` meets its contract. Assumes nothing.
use Rattle.lookup.proofs.Halving.{line_none, line_other, line_same}
use borrow.Author.Rules.{rules}
use Rattle.lookup.proofs.is_line.Goals as goal

pub returns-then-line-count : goal.returns-then-line-count
returns-then-line-count c = search (line_none, rules)

pub returns-then-item-value : goal.returns-then-item-value
returns-then-item-value c = search (line_other, rules)

pub returns : goal.returns
returns c = search (line_same, rules)
