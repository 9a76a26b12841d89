-- `repeats::is_text_row` meets its contract. Assumes nothing.
use Rattle.repeats.proofs.NamedLaws.{text_same}
use borrow.Author.Rules.{rules}
use Rattle.repeats.proofs.is_text_row.Goals as goal

pub returns : goal.returns
returns c = search (text_same, rules)
