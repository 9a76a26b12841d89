-- Where a line of a sheet stands in its bytes, and the copy by these places.
use Rattle.std.specs.Prelude.{cond, List, [], ◌∷◌, ◌++◌, ℕ, zero, suc, ◌+◌, eqb, length, take, drop}
use Rattle.sheet.specs.Bytes.{up_to}

-- how many bytes stand before the line that has i others before it; all where there is none
unfoldable pub start_of : ℕ → List ℕ → ℕ
start_of zero l = 0
start_of (suc i) [] = 0
start_of (suc i) (x ∷ l) = suc (cond (eqb x 10) (start_of i l) (start_of (suc i) l))

-- where line n begins, counted from 1, and where it ends
abbrev pub begin_of : List ℕ → ℕ → ℕ
begin_of sheet zero = length sheet
begin_of sheet (suc i) = start_of i sheet

abbrev pub end_from : List ℕ → ℕ → ℕ
end_from sheet a = a + up_to 10 (drop a sheet)

-- the sheet with other bytes in the place of those from a to e
abbrev pub replaced : List ℕ → ℕ → ℕ → List ℕ → List ℕ
replaced sheet a e new = take a sheet ++ (new ++ drop e sheet)
