-- Lines compared by their rows: texts by their bytes, others word by word. Assumes nothing.
use mathlib.Core.Path.{◌≡◌, refl}
use mathlib.Core.Bool.{Bool, true, false, cond}
use mathlib.Core.List.{List, [], ◌∷◌}
use Prim.Native.Nat.{ℕ, zero, suc, ◌<◌}
use native.Mathlib.Omega.{arith}
use lib.Dec.{eqb}
use lib.ListN.{length, get_or}
use Rattle.sheet.specs.Forms.{TEXT}
use Rattle.table.specs.Layout.{rows_of, text_row, text_rows, row_in}
use Rattle.table.proofs.Rows.{count_rows}
use Rattle.agree.specs.Breaks.{lines_in}

-- ---- the lines of a key that words hold

texts_at : (sheet : List ℕ) (rs : List (List ℕ)) (n : ℕ) → n < length rs → get_or (text_rows sheet rs) n [] ≡ text_row sheet (get_or rs n [])
texts_at sheet [] n h = absurd (omega arith)
texts_at sheet (r ∷ rs) zero h = refl
texts_at sheet (r ∷ rs) (suc n) h = texts_at sheet rs n (omega arith)

pub line_in : (sheet a : List ℕ) (k n : ℕ) → n < get_or a k 0 → get_or (lines_in sheet a k) n [] ≡ row_in sheet k (get_or (rows_of a k) n [])
line_in sheet a k n h = let l : n < length (rows_of a k) = omega (arith, count_rows a k) in go (eqb k TEXT) l
  where
    go : (t : Bool) → n < length (rows_of a k) → get_or (cond t (text_rows sheet (rows_of a k)) (rows_of a k)) n [] ≡ cond t (text_row sheet (get_or (rows_of a k) n [])) (get_or (rows_of a k) n [])
    go true l = texts_at sheet (rows_of a k) n l
    go false l = refl
