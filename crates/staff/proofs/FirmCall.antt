-- DOCUMENT 02, 2.14, THE CALL: where it gives number 0, each row's decision is that of the sheet's one reading with the row's two texts set, and
-- the group's is theirs; where it refuses, no row changes and the group is open.
use mathlib.Core.Path.{◌≡◌, refl, sym, ◌∙◌, ap, ap₂, subst}
use mathlib.Core.Bool.{Bool, true, false, cond, ◌||◌}
use mathlib.Core.Option.{some, some-injective}
use mathlib.Core.List.{List, [], ◌∷◌}
use Prim.Native.Nat.{ℕ, zero, suc, ◌≤◌, ◌<◌}
use native.Mathlib.Nat.{le_of_suc-le-suc}
use native.Mathlib.Omega.{arith}
use borrow.Author.Tests.{ltb-false, lt-ltb, le-ltb, le-leb, ne_eqb}
use lib.Dec.{leb, ltb, eqb}
use lib.ListN.{length, get_elem?}
use Rattle.cedar.proofs.Tools.{or_left}
use Rattle.cedar.specs.Response.{Decision, undecided}
use Rattle.sheet.specs.Forms.{partial}
use Rattle.sheet.specs.State.{State}
use Rattle.sheet.specs.Sheet.{read}
use Rattle.sheet.specs.Answer.{answer}
use Rattle.sheet.specs.Call.{Returned, returns, room, lent_then, short_then, read_then, checked_then, fitted, returned, Accepted}
use Rattle.sheet.specs.ReadAnswer.{read_answer}
use Rattle.sheet.specs.Demand3.{Answered, bytes_of}
use Rattle.staff.specs.Firm.{Asked, Row, filled_sheet, decision_on, row_decision, filled_rows, with_texts, group, most_rows, rows_then, ask_fits, misfit, fit_then, firm_returned, firm_rows, firm_group}
use Rattle.staff.specs.Called.{SaysDecision}
use Rattle.sheet.proofs.reading.Lines.{zero_not_suc}
use Rattle.sheet.proofs.answer.AnswerRead.{partial_said, partial_answer_back}
use Rattle.sheet.proofs.answer.Buffers.{bytes_are}
use Rattle.sheet.proofs.reading.Checked.{lent_by, short_by, read_by, same_refusal, passes, accepted_from}
use Rattle.sheet.proofs.demand3.Demand3Answers.{accepted}
use Rattle.sheet.proofs.reading.Refusals.{read_small}
use Rattle.staff.proofs.FirmBytes.{filled_sheet_law, row_decision_law}

-- ---- a row

module _ (sheet : List ℕ) (q : Asked) (acc : Accepted partial sheet) (fits : ask_fits (read partial sheet).state q ≡ true) (short : length (filled_sheet sheet q) ≤ room) where
  -- the sheet with the two texts filled in is accepted, where it is short enough for a call of its own
  pub filled_accepted : Accepted partial (filled_sheet sheet q)
  filled_accepted = accepted_from partial (filled_sheet sheet q) short (filled_sheet_law sheet q acc fits).0

  -- EVERY CALL FOR IT ANSWERS THE ROW'S DECISION, in whatever slices and buffer it was lent
  pub row_called : (x : Answered partial (filled_sheet sheet q)) → SaysDecision (bytes_of x) (row_decision sheet q)
  unfolding row_decision
  row_called x = record { said = partial_said (read partial (filled_sheet sheet q)).state; reads = ap (read_answer partial) (bytes_are x) ∙ partial_answer_back (filled_sheet sheet q) (accepted x); decides = refl }

-- ---- 15: the lowest row that does not fit

-- row i does not fit, and each before it does
pub record Lowest (s : State) (rs : List Row) (i : ℕ) : Type 0 where
  pub row : Row
  pub there : get_elem? rs i ≡ some row
  pub unfit : ask_fits s row.asked ≡ false
  pub first : (j : ℕ) (x : Row) → j < i → get_elem? rs j ≡ some x → ask_fits s x.asked ≡ true

lowest_later : (s : State) (r : Row) (rs : List Row) (i : ℕ) → ask_fits s r.asked ≡ true → Lowest s rs i → Lowest s (r ∷ rs) (suc i)
lowest_later s r rs i e h = record { row = h.row; there = h.there; unfit = h.unfit; first = before }
  where
    before : (j : ℕ) (x : Row) → j < suc i → get_elem? (r ∷ rs) j ≡ some x → ask_fits s x.asked ≡ true
    before zero x lt g = subst (λ (z : Row). ask_fits s z.asked ≡ true) (some-injective r x g) e
    before (suc j) x lt g = h.first j x (le_of_suc-le-suc lt) g

pub misfit_lowest : (s : State) (rs : List Row) → misfit s rs < length rs → Lowest s rs (misfit s rs)
misfit_lowest s [] h = absurd (omega (arith, h))
misfit_lowest s (r ∷ rs) h = go (ask_fits s r.asked) refl h (misfit_lowest s rs)
  where
    go : (b : Bool) → ask_fits s r.asked ≡ b → cond b (suc (misfit s rs)) 0 < suc (length rs) → (misfit s rs < length rs → Lowest s rs (misfit s rs)) → Lowest s (r ∷ rs) (cond b (suc (misfit s rs)) 0)
    go true e h ih = lowest_later s r rs (misfit s rs) e (ih (le_of_suc-le-suc h))
    go false e h ih = record { row = r; there = refl; unfit = e; first = λ j x lt g. absurd (omega (arith, lt)) }

-- ---- the rows

-- from one state: what the sheet's one reading gives each row
abbrev pub rows_on : State → List Row → List Row
rows_on s [] = []
rows_on s (r ∷ rs) = record { asked = r.asked; decision = decision_on (with_texts s r.asked) } ∷ rows_on s rs

-- each row fits
abbrev pub AllAsk : State → List Row → Type 0
AllAsk s [] = Unit {0}
AllAsk s (r ∷ rs) = (ask_fits s r.asked ≡ true) × AllAsk s rs

pub all_ask : (s : State) (rs : List Row) → length rs ≤ misfit s rs → AllAsk s rs
all_ask s [] h = tt
all_ask s (r ∷ rs) h = go (ask_fits s r.asked) refl h (all_ask s rs)
  where
    go : (b : Bool) → ask_fits s r.asked ≡ b → suc (length rs) ≤ cond b (suc (misfit s rs)) 0 → (length rs ≤ misfit s rs → AllAsk s rs) → (ask_fits s r.asked ≡ true) × AllAsk s rs
    go true e h ih = (e, ih (le_of_suc-le-suc h))
    go false e h ih = absurd (omega (arith, h))

pub rows_are : (sheet : List ℕ) → Accepted partial sheet → (rs : List Row) → AllAsk (read partial sheet).state rs → filled_rows sheet rs ≡ rows_on (read partial sheet).state rs
rows_are sheet acc [] h = refl
rows_are sheet acc (r ∷ rs) h = ap₂ (λ d l. record { asked = r.asked; decision = d } ∷ l) (row_decision_law sheet r.asked acc h.0) (rows_are sheet acc rs h.1)

-- ---- the call

-- what it returns, the group's decision and the rows after it
pub data Says (sheet : List ℕ) (rs : List Row) : Returned → Decision → List Row → Type 0 where
  decides : Accepted partial sheet → length rs ≤ most_rows → AllAsk (read partial sheet).state rs → Says sheet rs (returns 0 0 0) (group (rows_on (read partial sheet).state rs)) (rows_on (read partial sheet).state rs)
  refuses : (n l : ℕ) → Says sheet rs (returns (suc n) l 0) undecided rs

-- a row's two texts
abbrev pub texts_of : List Row → List Asked
texts_of [] = []
texts_of (r ∷ rs) = r.asked ∷ texts_of rs

texts_on : (s : State) (rs : List Row) → texts_of (rows_on s rs) ≡ texts_of rs
texts_on s [] = refl
texts_on s (r ∷ rs) = ap (λ l. r.asked ∷ l) (texts_on s rs)

texts_said : {sheet : List ℕ} {rs rs' : List Row} {r : Returned} {d : Decision} → Says sheet rs r d rs' → texts_of rs' ≡ texts_of rs
texts_said {sheet} {rs} (decides acc few fit) = texts_on (read partial sheet).state rs
texts_said (refuses n l) = refl

module _ (work₁ work₂ : ℕ) (sheet : List ℕ) (rs : List Row) where
  abbrev s : State
  s = (read partial sheet).state

  abbrev last : Returned
  last = fit_then s rs (returns 0 0 0)

  -- THE THEOREM
  pub firm_says : Says sheet rs (firm_returned work₁ work₂ sheet rs) (firm_group work₁ work₂ sheet rs) (firm_rows work₁ work₂ sheet rs)
  unfolding firm_returned firm_group firm_rows
  firm_says =
      lent_by Ok work₁ work₂ (short_then sheet (rows_then rs (read_then partial sheet last))) (λ x. refuses 0 0)
      (λ x. short_by Ok sheet (rows_then rs (read_then partial sheet last)) (refuses 1 0) (λ short. go (ltb most_rows (length rs)) refl (λ few.
      read_by Ok partial sheet last (λ n q. refused n (read partial sheet).line) (λ e. fitting (accepted_from partial sheet short e) few (ltb (misfit s rs) (length rs)) refl))))
    where
      Ok : Returned → Type 0
      Ok r = Says sheet rs r (cond (eqb r.number 0) (group (filled_rows sheet rs)) undecided) (cond (eqb r.number 0) (filled_rows sheet rs) rs)

      refused : (n l : ℕ) → Ok (returns (suc n) l 0)
      refused n l = subst (λ (b : Bool). Says sheet rs (returns (suc n) l 0) (cond b (group (filled_rows sheet rs)) undecided) (cond b (filled_rows sheet rs) rs)) (sym (ne_eqb (suc n) 0 zero_not_suc)) (refuses n l)

      go : (b : Bool) → ltb most_rows (length rs) ≡ b → (length rs ≤ most_rows → Ok (read_then partial sheet last)) → Ok (cond b (returns 14 0 0) (read_then partial sheet last))
      go true e h = refuses 13 0
      go false e h = h (ltb-false most_rows (length rs) e)

      fitting : Accepted partial sheet → length rs ≤ most_rows → (b : Bool) → ltb (misfit s rs) (length rs) ≡ b → Ok (cond b (returns 15 (misfit s rs) 0) (returns 0 0 0))
      fitting acc few true e = refuses 14 (misfit s rs)
      fitting acc few false e =
          let fit = all_ask s rs (ltb-false (misfit s rs) (length rs) e) in
          subst (λ (l : List Row). Says sheet rs (returns 0 0 0) (group l) l) (sym (rows_are sheet acc rs fit)) (decides acc few fit)

  -- THE TEXTS OF THE ROWS ARE KEPT, and so is their number
  pub texts_kept : texts_of (firm_rows work₁ work₂ sheet rs) ≡ texts_of rs
  texts_kept = texts_said firm_says

  -- ---- each number

  -- 14, whatever the sheet's lines are
  pub firm_fourteen : (ltb work₁ room || ltb work₂ room) ≡ false → length sheet ≤ room → most_rows < length rs → firm_returned work₁ work₂ sheet rs ≡ returns 14 0 0
  unfolding firm_returned
  firm_fourteen lent short many = rw (lent, le-ltb room (length sheet) short, lt-ltb most_rows (length rs) many) refl

  -- AT MOST 64 ROWS: 1, 2 and 3 to 8 are asked as in every call
  pub firm_checked : length rs ≤ most_rows → firm_returned work₁ work₂ sheet rs ≡ lent_then work₁ work₂ (checked_then partial sheet last)
  unfolding firm_returned
  firm_checked few = rw (le-ltb most_rows (length rs) few) refl

  -- so 1 to 8 ARE WHAT A CALL FOR THE PARTIAL SHEET RETURNS, with the line
  pub firm_refused : length rs ≤ most_rows → (k : ℕ) → suc k ≤ 8 → (firm_returned work₁ work₂ sheet rs).number ≡ suc k → (out : ℕ) → firm_returned work₁ work₂ sheet rs ≡ returned partial work₁ work₂ out sheet
  unfolding returned
  firm_refused few k small e out =
      let c = firm_checked few in
      c ∙ same_refusal partial sheet work₁ work₂ last (fitted out (length (answer partial s))) (λ q. go (ltb (misfit s rs) (length rs)) (ap (λ (r : Returned). r.number) (sym (c ∙ q)) ∙ e))
    where
      go : (b : Bool) → (cond b (returns 15 (misfit s rs) 0) (returns 0 0 0)).number ≡ suc k → ⊥
      go true e = omega (arith, e, small)
      go false e = omega (arith, e)

  -- 15, with the place of the lowest row that does not fit
  pub firm_fifteen : (ltb work₁ room || ltb work₂ room) ≡ false → Accepted partial sheet → length rs ≤ most_rows → misfit s rs < length rs → firm_returned work₁ work₂ sheet rs ≡ returns 15 (misfit s rs) 0
  firm_fifteen lent acc few h =
      firm_checked few ∙ ap (λ (b : Bool). cond b (returns 1 0 0) (checked_then partial sheet last)) lent ∙ passes partial sheet last acc ∙ ap (λ (b : Bool). cond b (returns 15 (misfit s rs) 0) (returns 0 0 0)) (lt-ltb (misfit s rs) (length rs) h)

  -- ACCEPTED: number 0 where the sheet is accepted and each of at most 64 rows fits
  pub firm_accepted : (ltb work₁ room || ltb work₂ room) ≡ false → Accepted partial sheet → length rs ≤ most_rows → length rs ≤ misfit s rs → firm_returned work₁ work₂ sheet rs ≡ returns 0 0 0
  firm_accepted lent acc few h =
      firm_checked few ∙ ap (λ (b : Bool). cond b (returns 1 0 0) (checked_then partial sheet last)) lent ∙ passes partial sheet last acc ∙ ap (λ (b : Bool). cond b (returns 15 (misfit s rs) 0) (returns 0 0 0)) (le-ltb (misfit s rs) (length rs) h)

  -- EVERY NUMBER RETURNED IS 0 TO 8, 14 OR 15, and the length is 0
  pub firm_numbers : ((leb (firm_returned work₁ work₂ sheet rs).number 8 || eqb (firm_returned work₁ work₂ sheet rs).number 14 || eqb (firm_returned work₁ work₂ sheet rs).number 15) ≡ true) × ((firm_returned work₁ work₂ sheet rs).length ≡ 0)
  unfolding firm_returned
  firm_numbers =
      lent_by Ok work₁ work₂ (short_then sheet (rows_then rs (read_then partial sheet last))) (λ x. (refl, refl))
      (λ x. short_by Ok sheet (rows_then rs (read_then partial sheet last)) (refl, refl) (λ short. go (ltb most_rows (length rs))
      (read_by Ok partial sheet last (λ n q. (or_left (leb (suc n) 8 || eqb (suc n) 14) (eqb (suc n) 15) (or_left (leb (suc n) 8) (eqb (suc n) 14) (le-leb (suc n) 8 (let z = read_small partial sheet in omega (arith, q, z)))), refl)) (λ e. fitting (ltb (misfit s rs) (length rs))))))
    where
      Ok : Returned → Type 0
      Ok r = ((leb r.number 8 || eqb r.number 14 || eqb r.number 15) ≡ true) × (r.length ≡ 0)

      go : (b : Bool) → Ok (read_then partial sheet last) → Ok (cond b (returns 14 0 0) (read_then partial sheet last))
      go true h = (refl, refl)
      go false h = h

      fitting : (b : Bool) → Ok (cond b (returns 15 (misfit s rs) 0) (returns 0 0 0))
      fitting true = (refl, refl)
      fitting false = (refl, refl)
