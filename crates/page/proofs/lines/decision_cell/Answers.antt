-- `page::lines::decision_cell` meets its contract. Assumes nothing.
use Rattle.page.proofs.Rows.{decided}
use borrow.Author.Rules.{rules}
use Rattle.page.proofs.lines.decision_cell.Goals as goal

pub returns-in-Allow : goal.returns-in-Allow
returns-in-Allow c = search (decided, rules)

pub returns-in-Deny : goal.returns-in-Deny
returns-in-Deny c = search (decided, rules)

pub returns-in-Open : goal.returns-in-Open
returns-in-Open c = search (decided, rules)
