-- `reach::line_at` meets its contract. Assumes nothing.
use Rattle.reach.proofs.Steps.{line_row}
use borrow.Author.Rules.{rules}
use Rattle.reach.proofs.line_at.Goals as goal

pub returns : goal.returns
returns c = search (line_row, rules)
