-- The definitions on small cases. Assumes nothing.
use mathlib.Core.Path.{◌≡◌, refl}
use mathlib.Core.Bool.{Bool, true, false}
use mathlib.Core.List.{List, [], ◌∷◌}
use Prim.Native.Nat.{ℕ}
use lib.ListN.{get_or}
use Rattle.cedar.specs.Evaluate.{matches}
use Rattle.sheet.specs.Content.{pattern_of}
use Rattle.sheet.specs.Forms.{mark}
use Rattle.like.specs.Globs.{misses, ends_at, star_at, holds, fails, on_to, begins, block_of, later_of, step_of}

-- texts 0 `a`, 1 `ab`, 2 empty
texts : ℕ → List ℕ
texts t = get_or ((97 ∷ []) ∷ (97 ∷ 98 ∷ []) ∷ [] ∷ []) t []

block_cases : List Bool
unfolding texts
block_cases = matches texts (pattern_of []) [] ∷ matches texts (pattern_of []) (97 ∷ []) ∷ matches texts (pattern_of (mark ∷ 1 ∷ [])) (97 ∷ 97 ∷ 98 ∷ [])
    ∷ matches texts (pattern_of (0 ∷ mark ∷ [])) (98 ∷ []) ∷ []

like_is : block_cases ≡ true ∷ false ∷ true ∷ false ∷ []
unfolding texts block_cases
like_is = refl

blocks : (block_of texts 0 0 (0 ∷ mark ∷ 1 ∷ []) (97 ∷ 97 ∷ 98 ∷ []) ≡ star_at 2 1) × (block_of texts 2 1 (1 ∷ []) (97 ∷ 98 ∷ []) ≡ ends_at 3) × (block_of texts 2 2 (1 ∷ []) (98 ∷ []) ≡ misses)
unfolding texts begins block_of
blocks = (refl, refl, refl)

steps : (step_of 3 2 1 (ends_at 3) ≡ holds) × (step_of 3 2 1 (ends_at 2) ≡ on_to 2 2) × (step_of 3 2 3 misses ≡ fails)
unfolding later_of step_of
steps = (refl, refl, refl)
