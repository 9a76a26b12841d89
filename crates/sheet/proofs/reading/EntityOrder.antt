-- "entities ascending": an entity line that was found in order names a greater value than the line before it. Assumes nothing.
use mathlib.Core.Path.{◌≡◌, refl, ◌∙◌, ap}
use mathlib.Core.Bool.{Bool, true, false, ◌&&◌, ◌||◌}
use mathlib.Core.List.{List, [], ◌∷◌, ◌++◌}
use Prim.Native.Nat.{ℕ, suc, ◌-◌, ◌≤◌}
use native.Mathlib.Omega.{arith}
use borrow.Author.Tests.{ltb-true, eqb-true}
use lib.Dec.{eqb, ltb}
use lib.ListN.{length, get_or, length-append}
use Rattle.sheet.specs.Forms.{tag, items, ascendings, at, ENTITY}
use Rattle.sheet.specs.State.{State, lines_of, count, line_at}
use Rattle.sheet.specs.Sheet.{found, all_there, ascend, above}
use Rattle.sheet.proofs.reading.Lines.{and_both}

pub above_of : (u : State) (q : List ℕ) → found u ENTITY q ≡ true → above u ENTITY q ≡ true
unfolding found
above_of u q e = and_both (all_there u (tag q) 0 (items q) && ascend 0 (ascendings q)) (above u ENTITY q) e (λ a b. b)

last_is : (l : List (List ℕ)) (x : List ℕ) → get_or (l ++ (x ∷ [])) (length l) [] ≡ x
last_is [] x = refl
last_is (y ∷ l) x = last_is l x

pub above_last : (u : State) (pre : List (List ℕ)) (r q : List ℕ) → lines_of u ENTITY ≡ pre ++ (r ∷ []) → above u ENTITY q ≡ true → suc (at r 0) ≤ at q 0
above_last u pre r q e a =
    let n = length-append pre (r ∷ []) in
    let k : count u ENTITY ≡ suc (length pre) = ap length e ∙ n ∙ omega arith in
    let i : count u ENTITY - 1 ≡ length pre = omega (arith, k) in
    go (eqb (count u ENTITY) 0) refl k (ap (λ l. at l 0) ((λ j. get_or (e j) (i j) []) ∙ last_is pre r)) a
  where
    go : (b : Bool) → eqb (count u ENTITY) 0 ≡ b → count u ENTITY ≡ suc (length pre) → at (line_at u ENTITY (count u ENTITY - 1)) 0 ≡ at r 0 → (b || ltb (at (line_at u ENTITY (count u ENTITY - 1)) 0) (at q 0)) ≡ true → suc (at r 0) ≤ at q 0
    go true c k z a = let y = eqb-true (count u ENTITY) 0 c in absurd (omega (arith, k, y))
    go false c k z a = let y = ltb-true (at (line_at u ENTITY (count u ENTITY - 1)) 0) (at q 0) a in omega (arith, y, z)
