-- `forms::place_of` meets its contract. Assumes nothing.
use Rattle.forms.proofs.Places.{place_first, place_none, place_again, again_low}
use native.Mathlib.Omega.{arith}
use borrow.Author.Rules.{rules}
use Rattle.forms.proofs.place_of.Goals as goal

pub returns-then-j-f : goal.returns-then-j-f
returns-then-j-f c = search (place_first, rules)

pub returns-then-f-eq0 : goal.returns-then-f-eq0
returns-then-f-eq0 c = search (place_none, rules)

pub overflow_add-result : goal.overflow_add-result
overflow_add-result c = let x = c.args in
    omega (arith, again_low x.f x.j (search rules))

pub returns : goal.returns
returns c = search (place_again, rules)
