-- `depths::Places::of` meets its contract. Assumes nothing.
use Rattle.depths.proofs.FormTable.{places_first}
use borrow.Author.Rules.{rules}
use Rattle.depths.proofs.Places.of.Goals as goal

pub returns : goal.returns
returns c = places_first _ _ c.slots_of-slots.result _ c.form_of-form.ensures c.slots_of-slots.ensures (search rules) (search rules) (search rules)
