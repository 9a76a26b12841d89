-- `listing::values::entry` meets its contract. Assumes nothing.
use Rattle.print.proofs.Outs.{prints_two}
use borrow.Author.Rules.{rules}
use Rattle.listing.proofs.values.entry.Goals as goal

pub returns : goal.returns
returns c = search (prints_two, rules)
