-- `agree::is_line_of` meets its contract. Assumes nothing.
use Rattle.agree.proofs.Merging.{no_line, own_line}
use borrow.Author.Rules.{rules}
use Rattle.agree.proofs.is_line_of.Goals as goal

pub returns-then-number-count : goal.returns-then-number-count
returns-then-number-count c = search (no_line, rules)

pub returns : goal.returns
returns c = search (own_line, rules)
