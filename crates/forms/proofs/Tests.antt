-- Computed tests over tables, and numbers that no arm of a `match` takes. Assumes nothing.
use mathlib.Core.Path.{◌≡◌, refl, sym, ap, ◌∙◌}
use mathlib.Core.Bool.{Bool, true, false, ◌&&◌, ◌||◌, and-eq-true_iff}
use mathlib.Core.List.{List, [], ◌∷◌}
use Prim.Native.Nat.{ℕ, zero, suc, ◌+◌, ◌-◌, ◌≤◌, ◌<◌}
use native.Mathlib.Omega.{arith}
use borrow.Author.Tests.{leb-true, ne_eqb}
use lib.Dec.{leb}
use lib.ListN.{get_or}
use Rattle.cedar.specs.Numbered.{mem_n}
use Rattle.cedar.proofs.Tools.{no_true}
use Rattle.sheet.proofs.reading.Parsed.{all_below, all_below_law}

-- what a computed test says of the n numbers from lo on
pub ranged : (f : ℕ → Bool) (lo n : ℕ) → all_below (λ (i : ℕ). f (lo + i)) n ≡ true → (t : ℕ) → lo ≤ t → t < lo + n → f t ≡ true
ranged f lo n e t l h =
    let q : lo + (t - lo) ≡ t = omega arith in
    let p : f (lo + (t - lo)) ≡ true = all_below_law (λ (i : ℕ). f (lo + i)) n (t - lo) e (omega arith) in
    rw (← q) p

pub other : (a b : Bool) → a ≡ false → (a || b) ≡ true → b ≡ true
other true b e q = no_true (sym e)
other false b e q = q

-- ---- entries are small

unfoldable pub small : ℕ → List ℕ → Bool
small n [] = true
small n (x ∷ l) = leb x n && small n l

pub entry_small : (n : ℕ) (l : List ℕ) (i d : ℕ) → d ≤ n → small n l ≡ true → get_or l i d ≤ n
unfolding small
entry_small n [] i d h e = h
entry_small n (x ∷ l) zero d h e = leb-true x n ((and-eq-true_iff (leb x n) (small n l)).0 e).0
entry_small n (x ∷ l) (suc i) d h e = entry_small n l i d h ((and-eq-true_iff (leb x n) (small n l)).0 e).1

-- ---- a number that is none of these

abbrev pub NoneOf : List ℕ → ℕ → Type 0
NoneOf [] t = Unit {0}
NoneOf (k ∷ ks) t = NoneOf ks t × (t ≡ k → ⊥)

pub none_of : (ks : List ℕ) (t : ℕ) → NoneOf ks t → mem_n t ks ≡ false
none_of [] t h = refl
none_of (k ∷ ks) t h = rw (ne_eqb t k h.1) (none_of ks t h.0)

-- the numbers below n, the greatest first
unfoldable pub below : ℕ → List ℕ
below zero = []
below (suc n) = n ∷ below n

-- a number that is none of those below n is not below n
pub past : (n t : ℕ) → NoneOf (below n) t → n ≤ t
unfolding below
past zero t h = omega arith
past (suc n) t h = let p = past n t h.0 in let q = h.1 in omega (arith, p, q)

-- a row of the code's table, which is that of the definition with the same number
pub of_row : {A : Type 0} (f : ℕ → A) (t k : ℕ) (r q : A) → r ≡ q → t ≡ k → q ≡ f k → r ≡ f t
of_row f t k r q e h p = e ∙ p ∙ ap f (sym h)
