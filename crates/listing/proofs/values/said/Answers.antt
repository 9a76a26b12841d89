-- `listing::values::said` meets its contract. Assumes nothing.
use Rattle.listing.proofs.Made.{said_is}
use borrow.Author.Rules.{rules}
use Rattle.listing.proofs.values.said.Goals as goal

pub returns : goal.returns
returns c = search (said_is, rules)
