-- `listing::names::op_name` meets its contract. Assumes nothing.
use Rattle.listing.proofs.Wording.{no_name}
use borrow.Author.Rules.{rules}
use Rattle.listing.proofs.names.op_name.Goals as goal

pub returns-in_default : goal.returns-in_default
returns-in_default c = search (no_name, rules)
