-- `strict::like_of` meets its contract. Assumes nothing.
use Rattle.strict.proofs.Plain.{like_is, like_other}
use borrow.Author.Rules.{rules}
use Rattle.strict.proofs.like_of.Goals as goal

pub returns-in_default : goal.returns-in_default
returns-in_default c = search (like_is, like_other, rules)

pub returns : goal.returns
returns c = search (like_is, like_other, rules)
