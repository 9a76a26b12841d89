-- `listing::names::part_name` meets its contract. Assumes nothing.
use Rattle.listing.proofs.Wording.{letter_over}
use borrow.Author.Rules.{rules}
use Rattle.listing.proofs.names.part_name.Goals as goal

pub returns-in_default : goal.returns-in_default
returns-in_default c = search (letter_over, rules)
