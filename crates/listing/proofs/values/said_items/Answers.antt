-- `listing::values::said_items` meets its contract. Assumes nothing.
use Rattle.listing.proofs.Made.{items_long}
use borrow.Author.Rules.{rules}
use Rattle.listing.proofs.values.said_items.Goals as goal

pub returns-in-Long : goal.returns-in-Long
returns-in-Long c = search (items_long, rules)
