-- `strict::any_of` meets its contract. Assumes nothing.
use Rattle.strict.proofs.Plain.{any_first, any_second, any_both}
use borrow.Author.Rules.{rules}
use Rattle.strict.proofs.any_of.Goals as goal

pub returns-in_default : goal.returns-in_default
returns-in_default c = search (any_first, rules)

pub returns-in_default-t : goal.returns-in_default-t
returns-in_default-t c = search (any_second, any_both, rules)

pub returns : goal.returns
returns c = search (any_second, any_both, rules)
