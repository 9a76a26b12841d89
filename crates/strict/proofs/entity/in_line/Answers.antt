-- `strict::entity::in_line` meets its contract. Assumes nothing.
use Rattle.strict.proofs.Parents.{line_here, line_none}
use borrow.Author.Rules.{rules}
use Rattle.strict.proofs.entity.in_line.Goals as goal

pub returns-then-contains : goal.returns-then-contains
returns-then-contains c = search (line_here, rules)

pub returns-then-list-eq0 : goal.returns-then-list-eq0
returns-then-list-eq0 c = search (line_none, rules)
