-- `notes::look_noted` meets its contract. Assumes nothing.
use Rattle.notes.proofs.Noting.{noted_missing, noted_found}
use borrow.Author.Rules.{rules}
use Rattle.notes.proofs.look_noted.Goals as goal

pub returns-in_default : goal.returns-in_default
returns-in_default c = search (noted_missing, rules)

pub returns : goal.returns
returns c = search (noted_found, rules)
