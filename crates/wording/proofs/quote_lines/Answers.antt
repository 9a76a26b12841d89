-- `wording::quote_lines` meets its contract. Assumes nothing.
use Rattle.wording.proofs.Lines.{quote_lines_law}
use borrow.Author.Rules.{rules}
use Rattle.wording.proofs.quote_lines.Goals as goal

pub returns : goal.returns
returns c = search (quote_lines_law, rules)
