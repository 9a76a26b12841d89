-- `page::lines::shown_lines` meets its contract. Assumes nothing.
use Rattle.page.proofs.Rows.{shown_few, shown_many}
use borrow.Author.Rules.{rules}
use Rattle.page.proofs.lines.shown_lines.Goals as goal

pub returns-then-n-gt-LINES : goal.returns-then-n-gt-LINES
returns-then-n-gt-LINES c = search (shown_many, rules)

pub returns : goal.returns
returns c = search (shown_few, rules)
