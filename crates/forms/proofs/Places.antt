-- The place of a form that a place of a line is, and what may stand there, by cases. Assumes nothing.
use mathlib.Core.Path.{◌≡◌, refl, sym, ap, ◌∙◌}
use mathlib.Core.List.{[], ◌∷◌}
use Prim.Native.Nat.{ℕ, ◌+◌, ◌-◌, ◌%◌, ◌≤◌, ◌<◌}
use native.Mathlib.Nat.{mod-le}
use native.Mathlib.Omega.{arith}
use borrow.Author.Tests.{lt-ltb, le-ltb, eq-eqb, ne_eqb}
use Rattle.forms.specs.declared.Form as D
use lib.ListN.{get_or, get_or-eq_default}
use Rattle.forms.specs.Rows.{NONE, place_in, code_in}
use Rattle.forms.proofs.Tests.{NoneOf, below, past}

module _ (r : D.Form) (j : ℕ) where
  pub place_first : j < r.items → j ≡ place_in r j
  place_first h = rw (lt-ltb j r.items h) refl

  pub place_none : r.items ≤ j → r.group ≡ 0 → 4 ≡ place_in r j
  place_none h e = rw (le-ltb j r.items h, eq-eqb r.group 0 e) refl

  pub place_again : r.items ≤ j → (r.group ≡ 0 → ⊥) → r.items + (j - r.items) % r.group ≡ place_in r j
  place_again h e = rw (le-ltb j r.items h, ne_eqb r.group 0 e) refl

  -- no later place
  pub again_low : r.items ≤ j → r.items + (j - r.items) % r.group ≤ j
  again_low h = let l = mod-le (j - r.items) r.group in omega (arith, l, h)

  module _ (n : ℕ) (p : n ≡ place_in r j) where
    here : (k : ℕ) → n ≡ k → get_or (r.first ∷ r.second ∷ r.third ∷ r.fourth ∷ []) k NONE ≡ code_in r j
    unfolding code_in
    here k e = ap (λ i. get_or (r.first ∷ r.second ∷ r.third ∷ r.fourth ∷ []) i NONE) (sym e ∙ p)

    pub code_first : n ≡ 0 → r.first ≡ code_in r j
    code_first e = here 0 e

    pub code_second : n ≡ 1 → r.second ≡ code_in r j
    code_second e = here 1 e

    pub code_third : n ≡ 2 → r.third ≡ code_in r j
    code_third e = here 2 e

    pub code_fourth : n ≡ 3 → r.fourth ≡ code_in r j
    code_fourth e = here 3 e

    pub code_none : NoneOf (below 4) n → NONE ≡ code_in r j
    code_none h = sym (get_or-eq_default (r.first ∷ r.second ∷ r.third ∷ r.fourth ∷ []) NONE {n = n} (past 4 n h)) ∙ here n refl
