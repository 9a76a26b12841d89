-- `page::lines::policy_line` meets its contract. Assumes nothing.
use Rattle.page.proofs.Rows.{policy_line_law}
use borrow.Author.Rules.{rules}
use Rattle.page.proofs.lines.policy_line.Goals as goal

pub returns : goal.returns
returns c = search (policy_line_law, rules)
