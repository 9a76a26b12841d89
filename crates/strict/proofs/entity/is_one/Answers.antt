-- `strict::entity::is_one` meets its contract. Assumes nothing.
use Rattle.strict.proofs.Entities.{one_is, one_other}
use borrow.Author.Rules.{rules}
use Rattle.strict.proofs.entity.is_one.Goals as goal

pub returns-in_default : goal.returns-in_default
returns-in_default c = search (one_is, one_other, rules)

pub returns : goal.returns
returns c = search (one_is, one_other, rules)
