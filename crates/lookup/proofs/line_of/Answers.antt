-- `lookup::line_of` meets its contract. Assumes nothing.
use Rattle.lookup.proofs.Halving.{line_led, line_found_law}
use borrow.Author.Rules.{rules}
use Rattle.lookup.proofs.line_of.Goals as goal

pub returns-then-is_line : goal.returns-then-is_line
returns-then-is_line c = search (line_led, rules)

pub returns : goal.returns
returns c = search (line_found_law, rules)
