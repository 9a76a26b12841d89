-- `line::variable` meets its contract. Assumes nothing.
use Rattle.line.proofs.LawsItem.{variable_long}
use borrow.Author.Rules.{rules}
use Rattle.line.proofs.variable.Goals as goal

pub returns-then-bytes-ne1 : goal.returns-then-bytes-ne1
returns-then-bytes-ne1 c = search (variable_long, rules)
