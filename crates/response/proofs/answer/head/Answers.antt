-- `response::answer::head` meets its contract. Assumes nothing.
use Rattle.response.proofs.Printing.{head_lines_law}
use borrow.Author.Rules.{rules}
use Rattle.response.proofs.answer.head.Goals as goal

pub returns : goal.returns
returns c = search (head_lines_law, rules)
