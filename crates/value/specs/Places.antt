-- Places in lists of numbers.
use Rattle.std.specs.Prelude.{◌≡◌, cond, ◌&&◌, List, [], ◌∷◌, ℕ, suc, ◌+◌, ◌≤◌, eqb, ltb, length, get_or, drop}

-- how many numbers at the list's beginning are below v
unfoldable pub lower_than : ℕ → List ℕ → ℕ
lower_than v [] = 0
lower_than v (x ∷ l) = cond (ltb x v) (suc (lower_than v l)) 0

-- how many places at the list's beginning come before the first one where x stands in w and y in v
unfoldable pub passed : List ℕ → List ℕ → ℕ → ℕ → List ℕ → ℕ
passed w v x y [] = 0
passed w v x y (p ∷ l) = cond ((ltb p (length w) && eqb (get_or w p 0) x) && eqb (get_or v p 0) y) 0 (suc (passed w v x y l))

-- x stands in w and y in v at none of the places from number i up to number j
pub record Passing (w v : List ℕ) (x y : ℕ) (l : List ℕ) (i j : ℕ) : Type 0 where
  pub near : j ≤ length l
  pub left : i + passed w v x y (drop i l) ≡ j + passed w v x y (drop j l)
