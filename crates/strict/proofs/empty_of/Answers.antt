-- `strict::empty_of` meets its contract. Assumes nothing.
use Rattle.strict.proofs.Plain.{empty_is, empty_other}
use borrow.Author.Rules.{rules}
use Rattle.strict.proofs.empty_of.Goals as goal

pub returns-in_default : goal.returns-in_default
returns-in_default c = search (empty_is, empty_other, rules)

pub returns : goal.returns
returns c = search (empty_is, empty_other, rules)
