-- `value::making::add` meets its contract. Assumes nothing.
use native.Mathlib.Omega.{arith}
use Rattle.value.proofs.Makes.{add_fits, add_few, add_is}
use borrow.Author.Rules.{rules}
use Rattle.value.proofs.making.add.Goals as goal

pub overflow_cast-line : goal.overflow_cast-line
overflow_cast-line c = let t = c in
    let s = t in
    omega (arith, add_fits s.args.rows.now s.args.line.now s.requires t.read-top.result t.read-top.ensures)

pub overflow_add-top : goal.overflow_add-top
overflow_add-top c = let t = c in
    let s = t in
    omega (arith, add_fits s.args.rows.now s.args.line.now s.requires t.read-top.result t.read-top.ensures)

pub add_row-requires : goal.add_row-requires
add_row-requires c = search (add_few, rules)

pub returns : goal.returns
returns c = search (add_is, rules)
