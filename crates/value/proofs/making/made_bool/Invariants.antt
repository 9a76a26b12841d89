-- `value::making::made_bool` meets its contract. Assumes nothing.
use mathlib.Core.List.{[], ◌∷◌}
use Rattle.forms.specs.Tags.{BOOL_VALUE}
use Rattle.table.specs.Layout.{MADE, rows_of}
use Rattle.value.proofs.Makes.{Finding}
use Rattle.value.proofs.making.made_bool.Given as goal

abbrev pub invariant-loop-i : goal.invariant-loop-i
invariant-loop-i l = Finding (BOOL_VALUE ∷ l.bit ∷ []) (rows_of l.rows MADE) l.many l.i
