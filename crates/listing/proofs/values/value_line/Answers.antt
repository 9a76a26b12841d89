-- `listing::values::value_line` meets its contract. Assumes nothing.
use Rattle.listing.proofs.Made.{value_line_law}
use borrow.Author.Rules.{rules}
use Rattle.listing.proofs.values.value_line.Goals as goal

pub returns : goal.returns
returns c = search (value_line_law, rules)
