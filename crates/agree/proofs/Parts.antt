-- Known parts of two lines compared. Assumes nothing.
use mathlib.Core.Path.{◌≡◌, ap₂, ◌∙◌}
use mathlib.Core.Bool.{Bool, false, not}
use mathlib.Core.List.{List}
use Prim.Native.Nat.{ℕ}
use lib.Dec.{eqb}
use lib.ListN.{get_or}
use Rattle.sheet.specs.Forms.{at}
use Rattle.sheet.specs.Typing.{unknown_or}
use Rattle.sheet.specs.Agreement.{part_same}

-- part j of two lines, by its words
part_is : (p c : List ℕ) (j l r : ℕ) (b : Bool) → l ≡ at p j → r ≡ at c j → b ≡ unknown_or l (eqb l r) → b ≡ part_same p c j
part_is p c j l r b hl hr e = e ∙ ap₂ (λ (x y : ℕ). unknown_or x (eqb x y)) hl hr

-- three tests, of which the first that fails decides

module _ (p c : List ℕ) (l₁ r₁ : ℕ) (b₁ : Bool) (hl₁ : l₁ ≡ get_or p 2 0) (hr₁ : r₁ ≡ get_or c 2 0) (e₁ : b₁ ≡ unknown_or l₁ (eqb l₁ r₁)) where
  first : b₁ ≡ part_same p c 1
  first = part_is p c 1 l₁ r₁ b₁ hl₁ hr₁ e₁

  module _ (l₂ r₂ : ℕ) (b₂ : Bool) (h : not b₁ ≡ false) (hl₂ : l₂ ≡ get_or p 3 0) (hr₂ : r₂ ≡ get_or c 3 0) (e₂ : b₂ ≡ unknown_or l₂ (eqb l₂ r₂)) where
    second : b₂ ≡ part_same p c 2
    second = part_is p c 2 l₂ r₂ b₂ hl₂ hr₂ e₂

-- the one line of a key of the request
