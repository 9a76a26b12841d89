-- Document 02, 2.11, "Try one answer": a partial sheet, the number of one of its lines and a replacement line.
use Rattle.std.specs.Prelude.{Bool, true, false, cond, ◌&&◌, ◌||◌, not, List, [], ◌∷◌, ◌++◌, ℕ, zero, suc, ◌-◌, ltb, length, get_or, take, drop, set}
use Rattle.cedar.specs.Types.{among}
use Rattle.sheet.specs.Ascii.{ascii}
use Rattle.sheet.specs.Bytes.{up_to, split, same}
use Rattle.sheet.specs.Forms.{partial, place_in}
use Rattle.sheet.specs.Sheet.{read}
use Rattle.sheet.specs.Answer.{answer}
use Rattle.sheet.specs.Call.{Returned, returns, lent_then, short_then, outputs, returned}

-- ---- the lines and the items of a line

-- "lines are split at byte 10 (an unended rest is one too)": line n, counted from 1. A line that the sheet lacks is as an empty one: it has no
-- `=`, so nothing may stand for it. So is the empty rest after a last byte 10.
abbrev pub line_of : List ℕ → ℕ → List ℕ
line_of sheet zero = []
line_of sheet (suc i) = get_or (split 10 sheet) i []

-- the parts of a sheet between its bytes 10, put together again
abbrev pub join_lines : List (List ℕ) → List ℕ
join_lines [] = []
join_lines (l ∷ []) = l
join_lines (l ∷ n ∷ ls) = l ++ (10 ∷ join_lines (n ∷ ls))

-- "a copy with that line replaced": a line that was not ended is not ended in the copy
unfoldable pub edited : List ℕ → ℕ → List ℕ → List ℕ
edited sheet n new = join_lines (set (split 10 sheet) (n - 1) new)

-- what stands before the first `=` of a line
abbrev pub key_in : List ℕ → List ℕ
key_in l = take (up_to 61 l) l

-- "items at commas after the first `=`"
abbrev pub items_in : List ℕ → List (List ℕ)
items_in l = split 44 (drop (suc (up_to 61 l)) l)

-- ---- what may stand for a line

-- "on a principal, resource, context or entity line": with `=` and one of these keys
abbrev pub may_fill : List ℕ → Bool
may_fill l = ltb (place_in (key_in l) ("principal" ∷ "resource" ∷ "context" ∷ "entity" ∷ [])) 4 && ltb (up_to 61 l) (length l)

-- "keeps the number of items and differs only in items that were a lone `?`": the items of the kept line and of the replacement
abbrev pub fills_only : List (List ℕ) → List (List ℕ) → Bool
fills_only [] [] = true
fills_only [] (g ∷ gs) = false
fills_only (f ∷ fs) [] = false
fills_only (f ∷ fs) (g ∷ gs) = (same f g || same f (ascii "?")) && fills_only fs gs

-- "The replacement has no byte 10", keeps these rules, and fills something: then it is another line
unfoldable pub fills : List ℕ → List ℕ → Bool
fills old new = not (among 10 new) && (may_fill old && (may_fill new && (same (key_in old) (key_in new) && (fills_only (items_in old) (items_in new) && not (same old new)))))

unfoldable pub may_edit : List ℕ → ℕ → List ℕ → Bool
may_edit sheet n new = fills (line_of sheet n) new

-- ---- the call

-- "12, with the line, for a line number that the sheet lacks or a replacement that breaks a rule above or fills nothing"
abbrev pub edit_then : List ℕ → ℕ → List ℕ → Returned → Returned
edit_then sheet n new r = cond (may_edit sheet n new) r (returns 12 n 0)

-- "the preview returns exactly what a run on a copy with that line replaced returns"; 12 "comes after 1 and after 2 for the kept sheet, and before
-- the run on the copy, which gives 2 itself if the copy is too long"
unfoldable pub preview_returned : ℕ → ℕ → ℕ → List ℕ → ℕ → List ℕ → Returned
preview_returned work₁ work₂ out sheet n new = lent_then work₁ work₂ (short_then sheet (edit_then sheet n new (returned partial work₁ work₂ out (edited sheet n new))))

-- the answer buffer after the call
unfoldable pub preview_written : ℕ → ℕ → List ℕ → List ℕ → ℕ → List ℕ → List ℕ
preview_written work₁ work₂ buffer sheet n new = outputs (preview_returned work₁ work₂ (length buffer) sheet n new).number (answer partial (read partial (edited sheet n new)).state) buffer
