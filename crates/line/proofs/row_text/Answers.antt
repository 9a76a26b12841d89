-- `line::row_text` meets its contract. Assumes nothing.
use native.Mathlib.Omega.{arith}
use borrow.Author.Rules.{rules}
use Rattle.line.proofs.LawsLine.{text_row_law}
use Rattle.line.proofs.row_text.Goals as goal

pub returns : goal.returns
returns c = (search (text_row_law, rules), omega arith)
