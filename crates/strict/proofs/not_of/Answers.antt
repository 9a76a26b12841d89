-- `strict::not_of` meets its contract. Assumes nothing.
use Rattle.strict.proofs.Plain.{not_is, not_other}
use borrow.Author.Rules.{rules}
use Rattle.strict.proofs.not_of.Goals as goal

pub returns-in_default : goal.returns-in_default
returns-in_default c = search (not_other, rules)

pub returns : goal.returns
returns c = search (not_is, rules)
