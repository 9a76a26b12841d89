-- `value::making::find` meets its contract. Assumes nothing.
use Rattle.value.proofs.Makes.{found_most, find_given, find_made}
use native.Mathlib.Omega.{arith}
use Rattle.table.specs.Layout.{MADE}
use borrow.Author.Rules.{rules}
use Rattle.value.proofs.making.find.Goals as goal

pub returns-then-v-n : goal.returns-then-v-n
returns-then-v-n c = search (find_given, rules)

pub overflow_add-result : goal.overflow_add-result
overflow_add-result c = let k = c in
    let s = k in
    omega (arith, found_most s.args.line.now s.args.rows.now MADE c.find.result c.find.ensures, k.shared_slice_known-1.given MADE)

pub returns : goal.returns
returns c = search (find_made, rules)
