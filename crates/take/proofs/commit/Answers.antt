-- `take::commit` meets its contract. Assumes nothing.
use Rattle.take.proofs.Noting.{commit_notes}
use borrow.Author.Rules.{rules}
use Rattle.take.proofs.commit.Goals as goal

pub returns : goal.returns
returns c = record { row = search rules; depths = search (commit_notes, rules) }
