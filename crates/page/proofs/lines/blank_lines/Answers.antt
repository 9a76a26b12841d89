-- `page::lines::blank_lines` meets its contract. Assumes nothing.
use Rattle.page.proofs.Rows.{blank_start, blank_on, blank_end}
use borrow.Author.Rules.{rules}
use Rattle.page.proofs.lines.blank_lines.Goals as goal

pub loop-i-init : goal.loop-i-init
loop-i-init c = blank_start _ _

pub loop-i-preserved : goal.loop-i-preserved
loop-i-preserved c = search (blank_on, rules)

pub returns : goal.returns
returns c = search (blank_end, rules)
