-- `lookup::look_at` meets its contract. Assumes nothing.
use Rattle.lookup.proofs.Finds.{look_bad, look_missing, look_found_law}
use borrow.Author.Rules.{rules}
use Rattle.lookup.proofs.look_at.Goals as goal

pub returns-in_default : goal.returns-in_default
returns-in_default c = search (look_bad, look_missing, look_found_law, rules)

pub returns-in_default-entry_of : goal.returns-in_default-entry_of
returns-in_default-entry_of c = search (look_bad, look_missing, look_found_law, rules)

pub returns : goal.returns
returns c = search (look_bad, look_missing, look_found_law, rules)
