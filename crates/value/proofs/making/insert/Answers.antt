-- `value::making::insert` meets its contract. Assumes nothing.
use native.Mathlib.Omega.{arith}
use Rattle.value.proofs.Inserts.{insert_low, insert_same, insert_shift}
use borrow.Author.Rules.{rules}
use Rattle.value.proofs.making.insert.Goals as goal

pub overflow_add-j : goal.overflow_add-j
overflow_add-j c = let r = c in
    let s = r in
    omega (arith, insert_low s.args.log.now s.args.at s.args.end s.args.value s.requires.0 s.requires.1 r.cut.result.now r.cut.ensures r.reach.result r.reach.ensures)

pub returns-then-is_there : goal.returns-then-is_there
returns-then-is_there c = search (insert_same, rules)

pub shift-requires : goal.shift-requires
shift-requires c = let r = c in
    let s = r in
    (insert_low s.args.log.now s.args.at s.args.end s.args.value s.requires.0 s.requires.1 r.cut.result.now r.cut.ensures r.reach.result r.reach.ensures, s.requires.1)

pub returns : goal.returns
returns c = search (insert_shift, rules)
