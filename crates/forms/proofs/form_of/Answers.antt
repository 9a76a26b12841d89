-- `forms::form_of` meets its contract. Assumes nothing.
use Rattle.forms.specs.Rows.{unpacked}
use borrow.Author.Rules.{rules}
use Rattle.forms.proofs.form_of.Goals as goal

pub returns : goal.returns
unfolding unpacked
returns c = search rules
