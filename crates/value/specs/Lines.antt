-- The values of a run: the sheet's, then those made.
use Rattle.std.specs.Prelude.{◌≡◌, List, [], ◌∷◌, ◌++◌, cond, ℕ, suc, ◌+◌, ◌≤◌, length, drop}
use Rattle.sheet.specs.Forms.{VALUE}
use Rattle.sheet.specs.Bytes.{same}
use Rattle.table.specs.Layout.{rows_of, MADE}

-- a value's number is its place here
unfoldable pub value_lines : List ℕ → List (List ℕ)
value_lines a = rows_of a VALUE ++ rows_of a MADE

-- the place of the first row that has these words, or the number of rows where none has
unfoldable pub place_of : List ℕ → List (List ℕ) → ℕ
place_of r [] = 0
place_of r (q ∷ rows) = cond (same q r) 0 (suc (place_of r rows))

-- none of the first i rows has these words
pub record Past (r : List ℕ) (rows : List (List ℕ)) (i : ℕ) : Type 0 where
  pub near : i ≤ length rows
  pub left : place_of r rows ≡ i + place_of r (drop i rows)
