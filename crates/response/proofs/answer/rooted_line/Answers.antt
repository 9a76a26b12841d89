-- `response::answer::rooted_line` meets its contract. Assumes nothing.
use Rattle.response.proofs.Rooted.{rooted_line_law}
use borrow.Author.Rules.{rules}
use Rattle.response.proofs.answer.rooted_line.Goals as goal

pub returns : goal.returns
returns c = search (rooted_line_law, rules)
