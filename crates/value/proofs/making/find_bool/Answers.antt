-- `value::making::find_bool` meets its contract. Assumes nothing.
use mathlib.Core.List.{[], ◌∷◌}
use native.Mathlib.Omega.{arith}
use Rattle.forms.specs.Tags.{BOOL_VALUE}
use Rattle.table.specs.Layout.{MADE}
use Rattle.value.proofs.Makes.{found_most, find_given, find_made}
use borrow.Author.Rules.{rules}
use Rattle.value.proofs.making.find_bool.Goals as goal

pub returns-then-v-n : goal.returns-then-v-n
returns-then-v-n c = search (find_given, rules)

pub overflow_add-result : goal.overflow_add-result
overflow_add-result c = let k = c in
    let s = k in
    omega (arith, found_most (BOOL_VALUE ∷ s.args.bit ∷ []) s.args.rows.now MADE c.find_made_bool.result c.find_made_bool.ensures, k.shared_slice_known-1.given MADE)

pub returns : goal.returns
returns c = search (find_made, rules)
