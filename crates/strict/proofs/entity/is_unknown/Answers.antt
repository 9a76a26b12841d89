-- `strict::entity::is_unknown` meets its contract. Assumes nothing.
use Rattle.strict.proofs.Parents.{unknown_open}
use borrow.Author.Rules.{rules}
use Rattle.strict.proofs.entity.is_unknown.Goals as goal

pub returns : goal.returns
returns c = search (unknown_open, rules)
