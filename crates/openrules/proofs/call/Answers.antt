-- `openrules::call` meets its contract. Assumes nothing.
use Rattle.openrules.proofs.Showing.{call_complete, call_partial}
use borrow.Author.Rules.{rules}
use Rattle.openrules.proofs.call.Goals as goal

pub returns-then-says_complete : goal.returns-then-says_complete
returns-then-says_complete c = search (call_complete, rules)

pub returns : goal.returns
returns c = search (call_partial, rules)
