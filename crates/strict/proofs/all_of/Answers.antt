-- `strict::all_of` meets its contract. Assumes nothing.
use Rattle.strict.proofs.Plain.{all_first, all_second, all_both}
use borrow.Author.Rules.{rules}
use Rattle.strict.proofs.all_of.Goals as goal

pub returns-in_default : goal.returns-in_default
returns-in_default c = search (all_first, rules)

pub returns-in_default-t : goal.returns-in_default-t
returns-in_default-t c = search (all_second, all_both, rules)

pub returns : goal.returns
returns c = search (all_second, all_both, rules)
