-- What the parts of the call leave. A name with a prime is what is left.
use Rattle.std.specs.Prelude.{◌≡◌, Bool, true, cond, ◌&&◌, ◌||◌, List, [], ◌∷◌, ℕ, ◌≤◌, ltb, eqb, length, get_or}
use Rattle.cedar.specs.Response.{Decision, allow, deny, undecided}
use Rattle.sheet.specs.Forms.{partial, at, mark, TEXT, PRINCIPAL, RESOURCE}
use Rattle.sheet.specs.Sheet.{read}
use Rattle.sheet.specs.Call.{Returned, returns, lent_then, short_then, refused_then, read_then, worked, Accepted}
use Rattle.words.specs.Log.{part, room}
use Rattle.table.specs.Layout.{rows_of}
use Rattle.response.specs.Runs.{Holding}
use Rattle.response.specs.Verdicts.{decision_of}
use Rattle.response.specs.declared.Decision as C
use Rattle.staff.specs.Firm.{Asked, ask_fits, most_rows, row_decision, Row}
use Rattle.firm.specs.declared.Row as R
use Rattle.firm.specs.declared.Quote as Q

-- ---- decisions as numbers

abbrev pub ALLOW : ℕ
ALLOW = 0

abbrev pub DENY : ℕ
DENY = 1

abbrev pub OPEN : ℕ
OPEN = 2

abbrev pub code_of : Decision → ℕ
code_of allow = ALLOW
code_of deny = DENY
code_of undecided = OPEN

abbrev pub decision_in : ℕ → Decision
decision_in n = get_or (allow ∷ deny ∷ []) n undecided

-- the group's, with one row's more
unfoldable pub joined : ℕ → ℕ → ℕ
joined group d = cond (eqb d ALLOW) group (cond (eqb group DENY) DENY d)

-- ---- rows

abbrev pub asks : ℕ → ℕ → Asked
asks p q = record { principal = p; resource = q }

abbrev pub asked_in : R.Row → Asked
asked_in r = asks r.principal r.resource

-- a row with the decision on the sheet
abbrev pub filled : List ℕ → R.Row → R.Row
filled sheet r = record { principal = r.principal; resource = r.resource; decision = code_of (row_decision sheet (asked_in r)) }

abbrev pub filled_all : List ℕ → List R.Row → List R.Row
filled_all sheet [] = []
filled_all sheet (r ∷ rs) = filled sheet r ∷ filled_all sheet rs

-- ---- one row's run

-- the words hold the sheet and the texts fit it: this is the decision
abbrev pub Decides : List ℕ → List ℕ → ℕ → ℕ → C.Decision → Type 0
Decides sheet a p q d = (work : List ℕ) → Accepted partial sheet → Holding partial sheet a work → ask_fits (read partial sheet).state (asks p q) ≡ true → decision_of d ≡ row_decision sheet (asks p q)

-- ---- the parts of the call

-- both texts exist and contradict none that the words hold
unfoldable pub text_in : List ℕ → ℕ → ℕ → Bool
text_in a k t = ltb t (get_or a TEXT 0) && (eqb (at (get_or (rows_of a k) 0 []) 1) mark || eqb (at (get_or (rows_of a k) 0 []) 1) t)

unfoldable pub ask_in : List ℕ → ℕ → ℕ → Bool
ask_in a p q = text_in a PRINCIPAL p && text_in a RESOURCE q

abbrev pub refusal : ℕ → ℕ → Q.Quote
refusal n k = record { number = n; line = k; length = 0; group = OPEN }

-- the first 16,384 words of a slice hold an accepted sheet
pub record Opened (sheet a : List ℕ) : Type 0 where
  pub depths : List ℕ
  pub accepted : Accepted partial sheet
  pub holding : Holding partial sheet (part a 0 room) depths

-- 14 of so many rows
abbrev pub many_then : ℕ → Returned → Returned
many_then n r = cond (ltb most_rows n) (returns 14 0 0) r

-- 1, 2, 14, then 3 to 8 are this number at this line, whatever is returned where all are passed; with 0 the words hold the sheet
pub record Begins (n : ℕ) (sheet w₁ w₂ : List ℕ) (f : Q.Quote) (a b : List ℕ) : Type 0 where
  pub checked : (r : Returned) → lent_then (length w₁) (length w₂) (short_then sheet (many_then n (read_then partial sheet r))) ≡ refused_then f.number f.line r
  pub line_is : f.number ≡ 0 → f.line ≡ 0
  pub length_is : f.length ≡ 0
  pub group_is : f.group ≡ cond (eqb f.number 0) ALLOW OPEN
  pub holds : f.number ≡ 0 → Opened sheet a
  pub long : f.number ≡ 0 → room ≤ length w₂
  pub first : worked a (length w₂) ≡ worked w₁ (length w₂)
  pub second : worked b (length w₁) ≡ worked w₂ (length w₁)

-- 15 of row i
unfoldable pub check_of : List ℕ → Q.Quote → R.Row → ℕ → Q.Quote
check_of a f r i = cond (eqb f.number 0) (cond (ask_in (part a 0 room) r.principal r.resource) f (refusal 15 i)) f

-- a row's decision, where nothing was refused
pub record Singles (sheet a b : List ℕ) (f : Q.Quote) (r r' : R.Row) (b' : List ℕ) : Type 0 where
  pub refused : (f.number ≡ 0 → ⊥) → r' ≡ r
  pub decided : f.number ≡ 0 → Opened sheet a → room ≤ length b → ask_fits (read partial sheet).state (asked_in r) ≡ true → r' ≡ filled sheet r
  pub work : worked b' (length a) ≡ worked b (length a)

-- the group's decision, where nothing was refused
unfoldable pub join_of : Q.Quote → R.Row → Q.Quote
join_of f r = cond (eqb f.number 0) (record { number = f.number; line = f.line; length = f.length; group = joined f.group r.decision }) f

-- ---- the call

-- rows as the definition has them
abbrev pub row_in : R.Row → Row
row_in r = record { asked = asked_in r; decision = decision_in r.decision }

abbrev pub rows_in : List R.Row → List Row
rows_in [] = []
rows_in (r ∷ rs) = row_in r ∷ rows_in rs
