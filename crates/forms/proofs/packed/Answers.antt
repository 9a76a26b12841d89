-- `forms::packed` meets its contract. Assumes nothing.
use Rattle.forms.specs.Rows.{unpacked}
use Rattle.forms.proofs.Bytes.{packed_row}
use borrow.Author.Rules.{rules}
use Rattle.forms.proofs.packed.Goals as goal

pub returns : goal.returns
unfolding unpacked
returns c = search (packed_row, rules)
