-- `agree::line_agrees` meets its contract. Assumes nothing.
use Rattle.agree.proofs.Merging.{agrees_listed}
use borrow.Author.Rules.{rules}
use Rattle.agree.proofs.line_agrees.Goals as goal

pub returns : goal.returns
returns c = search (agrees_listed, rules)
