-- `strict::entity::in_found` meets its contract. Assumes nothing.
use Rattle.strict.proofs.Parents.{above_unknown, above_known}
use borrow.Author.Rules.{rules}
use Rattle.strict.proofs.entity.in_found.Goals as goal

pub returns-then-is_unknown : goal.returns-then-is_unknown
returns-then-is_unknown c = search (above_unknown, rules)

pub returns : goal.returns
returns c = search (above_known, rules)
