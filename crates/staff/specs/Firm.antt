-- Document 02, 2.14, "A whole firm in one call": a partial sheet, and rows whose decisions the call fills.
use Rattle.std.specs.Prelude.{Bool, true, false, cond, ◌&&◌, ◌||◌, List, [], ◌∷◌, ◌++◌, ℕ, suc, ltb, eqb, length, set}
use Prim.Native.String.{String}
use Rattle.cedar.specs.Response.{Decision, allow, deny, undecided, decision}
use Rattle.cedar.specs.Runs.{verdicts}
use Rattle.sheet.specs.Ascii.{ascii}
use Rattle.sheet.specs.Bytes.{split, same, digits, commas}
use Rattle.sheet.specs.Forms.{partial, at, mark, TEXT, PRINCIPAL, RESOURCE}
use Rattle.sheet.specs.State.{State, count, lines_of, line_at}
use Rattle.sheet.specs.Sheet.{read}
use Rattle.sheet.specs.Answer.{run}
use Rattle.sheet.specs.Call.{Returned, returns, lent_then, short_then, read_then}
use Rattle.previewed.specs.Preview.{join_lines, key_in, items_in}

-- "The texts are given by number"
pub record Asked : Type 0 where
  pub principal : ℕ
  pub resource : ℕ

-- "a list of rows, each with a principal text and a resource text", and the decision that the call fills
pub record Row : Type 0 where
  pub asked : Asked
  pub decision : Decision

-- ---- a row's sheet and its decision

-- on a line of this key `?` becomes the text's number
abbrev pub filled_items : ℕ → List (List ℕ) → List (List ℕ)
filled_items t [] = []
filled_items t (f ∷ fs) = cond (same f (ascii "?")) (digits t) f ∷ filled_items t fs

abbrev pub filled_line : String → ℕ → List ℕ → List ℕ
filled_line key t l = cond (same (key_in l) (ascii key)) (key_in l ++ (61 ∷ commas (filled_items t (items_in l)))) l

abbrev pub filled_lines : Asked → List (List ℕ) → List (List ℕ)
filled_lines q [] = []
filled_lines q (l ∷ ls) = filled_line "resource" q.resource (filled_line "principal" q.principal l) ∷ filled_lines q ls

-- "the sheet with those two texts filled in, whose length has no limit here"
unfoldable pub filled_sheet : List ℕ → Asked → List ℕ
filled_sheet sheet q = join_lines (filled_lines q (split 10 sheet))

-- the decision of the partial run on what was read
abbrev pub decision_on : State → Decision
decision_on s = decision (verdicts (run partial s).lines)

-- "Each row equals the decision on" that sheet
unfoldable pub row_decision : List ℕ → Asked → Decision
row_decision sheet q = decision_on (read partial (filled_sheet sheet q)).state

-- "the call fills each row's decision": its two texts stay as they are
abbrev pub filled_row : List ℕ → Row → Row
filled_row sheet r = record { asked = r.asked; decision = row_decision sheet r.asked }

abbrev pub filled_rows : List ℕ → List Row → List Row
filled_rows sheet [] = []
filled_rows sheet (r ∷ rs) = filled_row sheet r ∷ filled_rows sheet rs

-- The same sheet as a state: the texts of principal and resource set where they were unknown.
abbrev pub set_text : ℕ → List ℕ → List ℕ
set_text t r = cond (eqb (at r 1) mark) (set r 2 t) r

abbrev pub set_texts : ℕ → List (List ℕ) → List (List ℕ)
set_texts t [] = []
set_texts t (r ∷ rs) = set_text t r ∷ set_texts t rs

unfoldable pub with_texts : State → Asked → State
with_texts s q = record {
  lines = set (set s.lines PRINCIPAL (set_texts q.principal (lines_of s PRINCIPAL))) RESOURCE (set_texts q.resource (lines_of s RESOURCE));
  depths = s.depths;
  used = s.used;
}

-- ---- the group

abbrev pub is_deny : Decision → Bool
is_deny allow = false
is_deny deny = true
is_deny undecided = false

abbrev pub is_undecided : Decision → Bool
is_undecided allow = false
is_undecided deny = false
is_undecided undecided = true

abbrev pub any_row : (Decision → Bool) → List Row → Bool
any_row f [] = false
any_row f (r ∷ rs) = f r.decision || any_row f rs

-- "Then the group: deny if any row denies, else open if any row is open, else allow; no rows gives allow."
unfoldable pub group : List Row → Decision
group rs = cond (any_row is_deny rs) deny (cond (any_row is_undecided rs) undecided allow)

-- ---- the call

abbrev pub most_rows : ℕ
most_rows = 64

-- "14 for over 64 rows, after 2"
abbrev pub rows_then : List Row → Returned → Returned
rows_then rs r = cond (ltb most_rows (length rs)) (returns 14 0 0) r

-- a text that exists and does not contradict a known one on the line of key k
abbrev pub text_fits : State → ℕ → ℕ → Bool
text_fits s k t = ltb t (count s TEXT) && (eqb (at (line_at s k 0) 1) mark || eqb (at (line_at s k 0) 1) t)

abbrev pub ask_fits : State → Asked → Bool
ask_fits s q = text_fits s PRINCIPAL q.principal && text_fits s RESOURCE q.resource

-- the place, from 0, of the lowest row that does not fit; past the end where all do
abbrev pub misfit : State → List Row → ℕ
misfit s [] = 0
misfit s (r ∷ rs) = cond (ask_fits s r.asked) (suc (misfit s rs)) 0

-- "15 for a text that does not exist or contradicts a known one, with the row's place from 0 in the line's stead, .. the lowest row first"
abbrev pub fit_then : State → List Row → Returned → Returned
fit_then s rs r = cond (ltb (misfit s rs) (length rs)) (returns 15 (misfit s rs) 0) r

-- 1, 2, 14, 3 to 8, 15 "after all the sheet's checks". "The length is 0 always"; "No answer buffer is lent, so 10 is not met here."
unfoldable pub firm_returned : ℕ → ℕ → List ℕ → List Row → Returned
firm_returned work₁ work₂ sheet rs = lent_then work₁ work₂ (short_then sheet (rows_then rs (read_then partial sheet (fit_then (read partial sheet).state rs (returns 0 0 0)))))

-- "On refusal no row changes."
unfoldable pub firm_rows : ℕ → ℕ → List ℕ → List Row → List Row
firm_rows work₁ work₂ sheet rs = cond (eqb (firm_returned work₁ work₂ sheet rs).number 0) (filled_rows sheet rs) rs

-- "the group's decision comes back beside the numbers, as open on a refusal"
unfoldable pub firm_group : ℕ → ℕ → List ℕ → List Row → Decision
firm_group work₁ work₂ sheet rs = cond (eqb (firm_returned work₁ work₂ sheet rs).number 0) (group (filled_rows sheet rs)) undecided
