-- `words::add` meets its contract. Assumes nothing.
use Prim.Native.Nat.{◌/◌}
use mathlib.Core.Path.{sym, ◌∙◌}
use native.Mathlib.Omega.{arith}
use Rattle.words.proofs.Bits.{added_there, added_new, added_out, add_room}
use borrow.Author.Rules.{rules}
use Rattle.words.proofs.add.Goals as goal

pub returns-then-has : goal.returns-then-has
returns-then-has c = search (added_there, rules)

pub overflow_add-words : goal.overflow_add-words
overflow_add-words c = let s = c in let a = s.args in
    omega (arith, add_room a.words.now a.number c.power-q.result (omega (arith, c.slice_known-then-i-words-1.given (a.number / 32))) c.power-q.ensures (sym s.has.ensures ∙ s.if-has.false))

pub returns-then-i-words : goal.returns-then-i-words
returns-then-i-words c = search (added_new, rules)

pub returns-else-i-words : goal.returns-else-i-words
returns-else-i-words c = search (added_out, rules)
