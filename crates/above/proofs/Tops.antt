-- An entity without parents reaches none. Assumes nothing.
use mathlib.Core.Path.{◌≡◌, refl, sym, ◌∙◌, ap}
use mathlib.Core.Bool.{Bool, true, false, not}
use mathlib.Core.Option.{Option}
use mathlib.Core.List.{List, [], ◌∷◌}
use Prim.Native.Nat.{ℕ, zero, suc, ◌<◌}
use native.Mathlib.Omega.{arith}
use borrow.Author.Tests.{eqb-true}
use native.Mathlib.Decide.{dec_lt}
use lib.Dec.{eqb}
use lib.ListN.{length, get_or}
use Rattle.cedar.specs.Value.{on_some}
use Rattle.sheet.specs.Forms.{VALUE}
use Rattle.sheet.specs.Parents.{parents_in, parents, within, ancestors}
use Rattle.table.specs.Layout.{rows_of}
use Rattle.reach.specs.Marks.{line_rows, place_of}
use Rattle.reach.proofs.Marking.{line_there, line_not}
use Rattle.above.specs.Fitting.{all_above, Unfit, Fit}

no_members : (l : List ℕ) → length l ≡ 0 → l ≡ []
no_members [] e = refl
no_members (x ∷ l) e = absurd (omega (arith, e))

-- the line of entity n, where there is one, is the one at its place
pub none_named : (vs es : List (List ℕ)) (n k : ℕ) (q : List ℕ) → k ≡ place_of n es → q ≡ parents_in vs es (get_or es k []) → eqb (length q) 0 ≡ true → parents vs es n ≡ []
none_named vs es n k q ek eq h = go (dec_lt (place_of n es) (length es))
  where
    empty : parents_in vs es (get_or es (place_of n es) []) ≡ []
    empty = ap (λ (j : ℕ). parents_in vs es (get_or es j [])) (sym ek) ∙ sym eq ∙ no_members q (eqb-true (length q) 0 h)

    go : Dec (place_of n es < length es) → parents vs es n ≡ []
    go (yes d) = ap (λ (o : Option (List ℕ)). on_some [] o (parents_in vs es)) (line_there n es d) ∙ empty
    go (no d) = ap (λ (o : Option (List ℕ)). on_some [] o (parents_in vs es)) (line_not n es (omega (arith, d)))

module _ (above : ℕ → List ℕ) where
  within_none : (j : ℕ) → within above j [] ≡ []
  within_none zero = refl
  within_none (suc j) = rw (within_none j)

none_reached : (vs es : List (List ℕ)) (n : ℕ) → parents vs es n ≡ [] → ancestors vs es n ≡ []
unfolding ancestors
none_reached vs es n e = ap (within (parents vs es) (length es)) e ∙ within_none (parents vs es) (length es)

pub top_fits : (a : List ℕ) (d v : ℕ) (f : List ℕ) (b : Bool) → (b ≡ true → parents (rows_of a VALUE) (line_rows a) v ≡ []) → b ≡ true → Fit a f → Unfit a d v f false
unfolding all_above
top_fits a d v f b e t fit = record { is = sym (ap (λ (l : List ℕ). not (all_above a d l)) (none_reached (rows_of a VALUE) (line_rows a) v (e t))); fit = fit }
