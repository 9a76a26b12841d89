-- `strict::entity::hastag_of` meets its contract. Assumes nothing.
use Rattle.strict.proofs.Entities.{hastag_is}
use borrow.Author.Rules.{rules}
use Rattle.strict.proofs.entity.hastag_of.Goals as goal

pub returns : goal.returns
returns c = search (hastag_is, rules)
