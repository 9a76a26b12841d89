-- Document 02, 2.10, "The counter page": "a page of 72 columns and 60 lines, each ending in byte 10. It shows a partial sheet."
use Rattle.std.specs.Prelude.{cond, List, [], ◌∷◌, ◌++◌, ℕ, zero, suc, ◌-◌, ltb, length, take, replicate}
use Rattle.cedar.specs.Residual.{Class}
use Rattle.cedar.specs.Response.{Effect, Decision, decision}
use Rattle.cedar.specs.Runs.{NVerdict, verdicts}
use Rattle.sheet.specs.Ascii.{ascii}
use Rattle.sheet.specs.Bytes.{digits}
use Rattle.sheet.specs.Forms.{partial, items, TEXT}
use Rattle.sheet.specs.State.{State, line_at}
use Rattle.sheet.specs.Sheet.{read}
use Rattle.sheet.specs.Answer.{concat, decision_word, effect_word, class_word, size, ids, run}
use Rattle.sheet.specs.Call.{Returned, lent_then, checked_then, fitted, outputs}
use Rattle.sheet.specs.ReadAnswer.{PolicyLine}

-- ---- columns

abbrev pub spaces : ℕ → List ℕ
spaces n = replicate n 32

-- n columns, "cut or filled with spaces": the bytes from the left
abbrev pub cell : ℕ → List ℕ → List ℕ
cell n t = take n t ++ spaces (n - length t)

-- "right aligned"
abbrev pub right_cell : ℕ → List ℕ → List ℕ
right_cell n t = spaces (n - length t) ++ take n t

-- ---- rows

-- "Line 1 holds `decision=` and its word"
abbrev pub first_row : Decision → List ℕ
first_row d = ascii "decision=" ++ ascii (decision_word d)

-- "columns 1 to 40 the id, cut or filled with spaces; 41 to 48 the effect; 49 to 56 the class, both from the left; 57 to 72 the number of its residual nodes, right aligned"
abbrev pub policy_row : List ℕ → Effect → Class → ℕ → List ℕ
policy_row id e c n = cell 40 id ++ (cell 8 (ascii (effect_word e)) ++ (cell 8 (ascii (class_word c)) ++ right_cell 16 (digits n)))

-- the id is shown by its text
abbrev pub id_text : State → ℕ → List ℕ
id_text s i = items (line_at s TEXT i)

-- "one line a policy on term, in order": the ids of the policies, and what the run says of each
abbrev pub policy_rows : State → List ℕ → List NVerdict → List (List ℕ)
policy_rows s [] ls = []
policy_rows s (i ∷ is) [] = []
policy_rows s (i ∷ is) (l ∷ ls) = policy_row (id_text s i) l.effect l.class (size l.root) ∷ policy_rows s is ls

-- "`+` and the number left off, from column 1"
abbrev pub left_off : ℕ → List ℕ
left_off n = 43 ∷ digits n

-- "Of more than 59 such policies the first 58 are shown, and line 60 holds" that
abbrev pub shown_rows : List (List ℕ) → List (List ℕ)
shown_rows rs = cond (ltb 59 (length rs)) (take 58 rs ++ (left_off (length rs - 58) ∷ [])) rs

-- ---- lines

-- "72 columns .., each ending in byte 10"
abbrev pub page_line : List ℕ → List ℕ
page_line r = cell 72 r ++ (10 ∷ [])

-- n lines: the rows that there are; "Unused columns and lines are spaces"
abbrev pub page_lines : ℕ → List (List ℕ) → List (List ℕ)
page_lines zero rs = []
page_lines (suc n) [] = page_line [] ∷ page_lines n []
page_lines (suc n) (r ∷ rs) = page_line r ∷ page_lines n rs

-- a page: the decision, and the rows of the policies
abbrev pub page_with : Decision → List (List ℕ) → List ℕ
page_with d rs = concat (page_lines 60 (first_row d ∷ shown_rows rs))

-- the page of a sheet
unfoldable pub page : State → List ℕ
page s = page_with (decision (verdicts (run partial s).lines)) (policy_rows s (ids s) (run partial s).lines)

-- ---- the call: "The page takes the answer's place in the lent buffer and needs 4,380 bytes; a shorter buffer gets 10 with that length"

abbrev pub page_bytes : ℕ
page_bytes = 4380

-- what is returned, for work slices of so many words and a buffer of so many bytes
unfoldable pub page_returned : ℕ → ℕ → ℕ → List ℕ → Returned
page_returned work₁ work₂ out sheet = lent_then work₁ work₂ (checked_then partial sheet (fitted out page_bytes))

unfoldable pub page_written : ℕ → ℕ → List ℕ → List ℕ → List ℕ
page_written work₁ work₂ buffer sheet = outputs (page_returned work₁ work₂ (length buffer) sheet).number (page (read partial sheet).state) buffer

-- ---- the page from what an answer says: "Its words and numbers equal those of the answer"

-- the policy lines of an answer, by the text of an id, after n nodes: a policy's nodes are those up to its root
abbrev pub said_rows : (ℕ → List ℕ) → ℕ → List PolicyLine → List (List ℕ)
said_rows text n [] = []
said_rows text n (p ∷ ps) = policy_row (text p.id) p.effect p.class (suc p.root - n) ∷ said_rows text (suc p.root) ps

-- with its decision
unfoldable pub page_of : (ℕ → List ℕ) → Decision → List PolicyLine → List ℕ
page_of text d ps = page_with d (said_rows text 0 ps)
