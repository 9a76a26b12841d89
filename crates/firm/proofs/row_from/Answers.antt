-- `firm::row_from` meets its contract. Assumes nothing.
use Rattle.firm.specs.Words.{row_from_def}
use borrow.Author.Rules.{rules}
use Rattle.firm.proofs.row_from.Goals as goal

pub returns : goal.returns
unfolding row_from_def
returns c = search rules
