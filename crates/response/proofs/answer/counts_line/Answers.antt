-- `response::answer::counts_line` meets its contract. Assumes nothing.
use Rattle.response.proofs.Printing.{counts_line_law}
use borrow.Author.Rules.{rules}
use Rattle.response.proofs.answer.counts_line.Goals as goal

pub returns : goal.returns
returns c = search (counts_line_law, rules)
