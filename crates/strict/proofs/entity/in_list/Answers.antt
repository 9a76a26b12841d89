-- `strict::entity::in_list` meets its contract. Assumes nothing.
use Rattle.strict.proofs.Parents.{list_none, list_line}
use borrow.Author.Rules.{rules}
use Rattle.strict.proofs.entity.in_list.Goals as goal

pub returns-in_default : goal.returns-in_default
returns-in_default c = search (list_none, rules)

pub returns : goal.returns
returns c = search (list_line, rules)
