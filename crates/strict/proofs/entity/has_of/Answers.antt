-- `strict::entity::has_of` meets its contract. Assumes nothing.
use Rattle.strict.proofs.Entities.{has_is}
use borrow.Author.Rules.{rules}
use Rattle.strict.proofs.entity.has_of.Goals as goal

pub returns : goal.returns
returns c = search (has_is, rules)
