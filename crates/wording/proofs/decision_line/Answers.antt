-- `wording::decision_line` meets its contract. Assumes nothing.
use Rattle.wording.proofs.Lines.{decision_line_law}
use borrow.Author.Rules.{rules}
use Rattle.wording.proofs.decision_line.Goals as goal

pub returns : goal.returns
returns c = search (decision_line_law, rules)
