-- `strict::entity::in_unlisted` meets its contract. Assumes nothing.
use Rattle.strict.proofs.Parents.{unlisted_complete, unlisted_partial}
use borrow.Author.Rules.{rules}
use Rattle.strict.proofs.entity.in_unlisted.Goals as goal

pub returns-then-complete : goal.returns-then-complete
returns-then-complete c = search (unlisted_complete, rules)

pub returns : goal.returns
returns c = search (unlisted_partial, rules)
