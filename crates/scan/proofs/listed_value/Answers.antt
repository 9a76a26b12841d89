-- `scan::listed_value` meets its contract. Assumes nothing.
use Rattle.std.proofs.Common.{◌∙◌}
use Rattle.scan.proofs.Wordlists.{value_form}
use Rattle.scan.proofs.listed_value.Goals as goal

pub returns : goal.returns
returns c = c.form_after.ensures ∙ value_form c.args.name.now c.place.result c.place.ensures
