-- `wording::row_lines` meets its contract. Assumes nothing.
use borrow.Author.Rules.{rules}
use Rattle.wording.proofs.Lines.{lining_on, lining_end}
use Rattle.wording.proofs.row_lines.Goals as goal

pub loop-i-preserved : goal.loop-i-preserved
loop-i-preserved c = search (lining_on, rules)

pub returns : goal.returns
returns c = search (lining_end, rules)
