-- `notes::attributes` meets its contract. Assumes nothing.
use Rattle.lookup.proofs.Finds.{part_line}
use borrow.Author.Rules.{rules}
use Rattle.notes.proofs.attributes.Goals as goal

pub returns : goal.returns
returns c = search (part_line, rules)
