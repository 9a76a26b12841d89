-- `response::answer::decision_line` meets its contract. Assumes nothing.
use Rattle.response.proofs.Wording.{decision_line_law}
use borrow.Author.Rules.{rules}
use Rattle.response.proofs.answer.decision_line.Goals as goal

pub returns : goal.returns
returns c = search (decision_line_law, rules)
