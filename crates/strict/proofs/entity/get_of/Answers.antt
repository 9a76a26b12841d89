-- `strict::entity::get_of` meets its contract. Assumes nothing.
use Rattle.strict.proofs.Entities.{get_is}
use borrow.Author.Rules.{rules}
use Rattle.strict.proofs.entity.get_of.Goals as goal

pub returns : goal.returns
returns c = search (get_is, rules)
