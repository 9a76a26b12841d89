-- `strict::is_of` meets its contract. Assumes nothing.
use Rattle.strict.proofs.Plain.{is_is, is_other}
use borrow.Author.Rules.{rules}
use Rattle.strict.proofs.is_of.Goals as goal

pub returns-in_default : goal.returns-in_default
returns-in_default c = search (is_is, is_other, rules)

pub returns : goal.returns
returns c = search (is_is, is_other, rules)
