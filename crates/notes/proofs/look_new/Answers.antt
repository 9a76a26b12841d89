-- `notes::look_new` meets its contract. Assumes nothing.
use mathlib.Core.Path.{refl}
use Rattle.notes.proofs.Noting.{looked_other, looked_known, looked_unknown, looked_empty}
use borrow.Author.Rules.{rules}
use Rattle.notes.proofs.look_new.Goals as goal

pub returns-in_default : goal.returns-in_default
returns-in_default c = looked_other _ _ _ _ _ _ c.requires c.note.ensures _ _ _ _ c.row_of.ensures c.shape_of-s.ensures refl (search rules) c.look_at.ensures

pub returns-in-Unknown : goal.returns-in-Unknown
returns-in-Unknown c = search (looked_unknown, rules)

pub returns-in-Empty : goal.returns-in-Empty
returns-in-Empty c = search (looked_empty, rules)

pub returns-in-Known : goal.returns-in-Known
returns-in-Known c = search (looked_known, rules)
