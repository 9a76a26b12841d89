-- `strict::entity::gettag_of` meets its contract. Assumes nothing.
use Rattle.strict.proofs.Entities.{gettag_is}
use borrow.Author.Rules.{rules}
use Rattle.strict.proofs.entity.gettag_of.Goals as goal

pub returns : goal.returns
returns c = search (gettag_is, rules)
