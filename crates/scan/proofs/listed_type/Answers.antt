-- `scan::listed_type` meets its contract. Assumes nothing.
use Rattle.std.proofs.Common.{◌∙◌}
use Rattle.scan.proofs.Wordlists.{type_form}
use Rattle.scan.proofs.listed_type.Goals as goal

pub returns : goal.returns
returns c = c.form_after.ensures ∙ type_form c.args.name.now c.place.result c.place.ensures
