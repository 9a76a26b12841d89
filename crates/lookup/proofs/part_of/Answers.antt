-- `lookup::part_of` meets its contract. Assumes nothing.
use Rattle.lookup.proofs.Finds.{part_by_law}
use borrow.Author.Rules.{rules}
use Rattle.lookup.proofs.part_of.Goals as goal

pub returns : goal.returns
returns c = search (part_by_law, rules)
