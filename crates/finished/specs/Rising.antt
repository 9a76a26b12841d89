-- Entity lines that ascend, as those of an accepted sheet do.
use Rattle.std.specs.Prelude.{List, [], ◌∷◌, ℕ, suc, ◌≤◌}
use Rattle.sheet.specs.Forms.{at}

-- each line's entity has a number of at least b, and one above that of the line before it
abbrev pub Rising : ℕ → List (List ℕ) → Type 0
Rising b [] = Unit {0}
Rising b (r ∷ rs) = (b ≤ at r 0) × Rising (suc (at r 0)) rs
