-- `scan::listed_form` meets its contract. Assumes nothing.
use Rattle.std.proofs.Common.{◌∙◌}
use Rattle.scan.proofs.Wordlists.{node_form}
use Rattle.scan.proofs.listed_form.Goals as goal

pub returns : goal.returns
returns c = c.form_after.ensures ∙ node_form c.args.name.now c.place.result c.place.ensures
