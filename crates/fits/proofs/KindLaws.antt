-- The kinds of an entity type's row, walked from word 1 to their end: what is left.
use mathlib.Core.Path.{◌≡◌, refl, ap, ◌∙◌}
use mathlib.Core.Bool.{Bool, ◌&&◌}
use mathlib.Core.List.{List, [], ◌∷◌}
use Prim.Native.Nat.{ℕ, zero, suc, ◌+◌, ◌-◌, ◌≤◌, ◌<◌}
use native.Mathlib.Omega.{arith}
use lib.Dec.{eqb}
use Rattle.std.specs.List.{list_all, list_any}
use lib.ListN.{length, get_or, drop, drop_of_length-le, length-drop}
use lib.Seq.{drop-cons, get_or-drop}
use Rattle.cedar.specs.Numbered.{mem_n}
use Rattle.sheet.specs.Forms.{items}
use Rattle.sheet.specs.Typing.{all_in}
use Rattle.fits.specs.Fit.{kinds_in, kinds_from, kinds_end, kind_in}

pub items_two : (y : List ℕ) → drop 1 (items y) ≡ drop 2 y
items_two [] = refl
items_two (x ∷ y) = refl

-- ---- the kinds from word i on

-- word i, from the first on
kind_at : (y : List ℕ) (i : ℕ) → 1 ≤ i → get_or (kinds_in y) (i - 1) 0 ≡ get_or y i 0
kind_at y zero h = absurd (omega arith)
kind_at y (suc zero) h = refl
kind_at y (suc (suc i)) h = let e : suc (suc i) - 1 ≡ suc i = omega arith in rw e (get_or-drop 2 y i 0 ∙ ap (λ (j : ℕ). get_or y j 0) (omega arith))

kinds_length : (y : List ℕ) → suc (length (kinds_in y)) ≡ kinds_end y
kinds_length y = let e : length (drop 2 y) ≡ length y - 2 = length-drop 2 y in omega (arith, e)

pub kinds_first : (y : List ℕ) → kinds_from y 1 ≡ kinds_in y
unfolding kinds_from
kinds_first y = refl

module _ (y : List ℕ) (i : ℕ) where
  pub kinds_next : 1 ≤ i → i < kinds_end y → kinds_from y i ≡ get_or y i 0 ∷ kinds_from y (i + 1)
  unfolding kinds_from
  kinds_next l h =
      let p : i - 1 < length (kinds_in y) = omega (arith, kinds_length y) in
      let q : suc (i - 1) ≡ i + 1 - 1 = omega arith in
      drop-cons (kinds_in y) (i - 1) 0 p ∙ rw (kind_at y i l, q)

  pub kinds_end_law : kinds_end y ≤ i → kinds_from y i ≡ []
  unfolding kinds_from
  kinds_end_law h = drop_of_length-le (kinds_in y) {i = i - 1} (omega (arith, kinds_length y))

-- ---- searches of a list

eqb_comm : (a b : ℕ) → eqb a b ≡ eqb b a
eqb_comm a b = grind arith

-- what the search of a list finds is a member
pub found_is : (k : ℕ) (l : List ℕ) → list_any (λ (x : ℕ). eqb x k) l ≡ mem_n k l
found_is k [] = refl
found_is k (x ∷ l) = rw (eqb_comm x k, found_is k l)

-- a test of each member
pub all_is : (f : ℕ → Bool) (l : List ℕ) → list_all f l ≡ all_in f l
all_is f [] = refl
all_is f (x ∷ l) = ap (λ (b : Bool). f x && b) (all_is f l)

pub kind_is : (y l : List ℕ) (k : ℕ) (b : Bool) → l ≡ kinds_in y → b ≡ list_any (λ (x : ℕ). eqb x k) l → b ≡ kind_in y k
unfolding kind_in
kind_is y l k b e q = q ∙ found_is k l ∙ ap (mem_n k) e
