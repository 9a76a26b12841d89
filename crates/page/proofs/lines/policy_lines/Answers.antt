-- `page::lines::policy_lines` meets its contract. Assumes nothing.
use Rattle.page.proofs.Rows.{policies_start, policies_on, policies_end}
use borrow.Author.Rules.{rules}
use Rattle.page.proofs.lines.policy_lines.Goals as goal

pub loop-i-init : goal.loop-i-init
loop-i-init c = policies_start _ _ _ _ _ _

pub loop-i-preserved : goal.loop-i-preserved
loop-i-preserved c = search (policies_on, rules)

pub returns : goal.returns
returns c = search (policies_end, rules)
