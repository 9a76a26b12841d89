-- `strict::contains_of` meets its contract. Assumes nothing.
use Rattle.strict.proofs.Plain.{contains_is, contains_other}
use borrow.Author.Rules.{rules}
use Rattle.strict.proofs.contains_of.Goals as goal

pub returns-in_default : goal.returns-in_default
returns-in_default c = search (contains_is, contains_other, rules)

pub returns : goal.returns
returns c = search (contains_is, contains_other, rules)
