-- What the program shows for a whole firm, from what its call promises. Assumes nothing.
use mathlib.Core.Path.{◌≡◌, refl, sym, ap, ap₂, ◌∙◌}
use mathlib.Core.Bool.{Bool, true, false, cond}
use mathlib.Core.List.{List, [], ◌∷◌, ◌++◌}
use Prim.Native.Nat.{ℕ, suc, ◌+◌, ◌*◌, ◌≤◌}
use native.Mathlib.Omega.{arith}
use native.Mathlib.Decide.{dec_le}
use borrow.Author.Tests.{eq-eqb, ne_eqb, lt-ltb}
use lib.ListN.{length, take, drop, length-append}
use lib.Dec.{eqb}
use lib.Seq.{take-append_seam}
use Rattle.cedar.specs.Response.{Decision, allow, deny, undecided}
use Rattle.sheet.specs.Ascii.{ascii}
use Rattle.sheet.specs.Forms.{partial}
use Rattle.sheet.specs.Sheet.{read}
use Rattle.sheet.specs.Answer.{decision_word}
use Rattle.sheet.specs.Call.{Returned, returns, room, short_then, read_then, over}
use Rattle.sheet.proofs.reading.Lines.{zero_not_suc}
use Rattle.sheet.proofs.reading.Checked.{lent_by, short_by}
use Rattle.print.specs.Written.{Written}
use Rattle.print.proofs.Writing.{written_as, written_over}
use Rattle.staff.specs.Firm.{Row, rows_then, fit_then, firm_returned, firm_rows, firm_group, filled_rows}
use Rattle.firm.specs.declared.Quote as Q
use Rattle.firm.specs.Parts.{decision_in, rows_in}
use Rattle.firm.specs.Words.{rows_of_words, QuotesWords}
use Rattle.firm.proofs.Wording.{rows_back_law}
use Rattle.wording.specs.Worded.{refusal, decided, rows_text, quote_text}
use Rattle.openrules.specs.Shown.{space, firm_back, firm_text, shown_firm, Shows}
use Rattle.openrules.proofs.Showing.{counts_front, shows_line}

-- ---- what is shown has room

word_most : (d : Decision) → length (ascii (decision_word d)) ≤ 5
word_most allow = omega arith
word_most deny = omega arith
word_most undecided = omega arith

row_most : (d : Decision) → length (decided "row" d) ≤ 10
row_most d =
    let z = word_most d in
    let y : length (ascii (decision_word d) ++ (10 ∷ [])) ≡ length (ascii (decision_word d)) + 1 = length-append (ascii (decision_word d)) (10 ∷ []) in
    let e : length (decided "row" d) ≡ suc (suc (suc (suc (length (ascii (decision_word d) ++ (10 ∷ [])))))) = refl in
    omega (arith, z, y, e)

group_most : (d : Decision) → length (decided "group" d) ≤ 12
group_most d =
    let z = word_most d in
    let y : length (ascii (decision_word d) ++ (10 ∷ [])) ≡ length (ascii (decision_word d)) + 1 = length-append (ascii (decision_word d)) (10 ∷ []) in
    let e : length (decided "group" d) ≡ suc (suc (suc (suc (suc (suc (length (ascii (decision_word d) ++ (10 ∷ [])))))))) = refl in
    omega (arith, z, y, e)

rows_most : (rs : List Row) → length (rows_text rs) ≤ length rs * 10
rows_most [] = omega arith
rows_most (r ∷ rs) =
    let z = rows_most rs in
    let y = row_most r.decision in
    let x : length (rows_text (r ∷ rs)) ≡ length (decided "row" r.decision) + length (rows_text rs) = length-append (decided "row" r.decision) (rows_text rs) in
    omega (arith, x, y, z)

-- number 0 is that of 64 rows at most
few : (w₁ w₂ : ℕ) (s : List ℕ) (rs : List Row) → (firm_returned w₁ w₂ s rs).number ≡ 0 → length rs ≤ 64
unfolding firm_returned
few w₁ w₂ s rs =
    lent_by Few w₁ w₂ (short_then s (rows_then rs r)) (λ h e. zero_not_suc e) (λ h. short_by Few s (rows_then rs r) (λ e. zero_not_suc e) (λ h'. go (dec_le (length rs) 64)))
  where
    r : Returned
    r = read_then partial s (fit_then (read partial s).state rs (returns 0 0 0))

    Few : Returned → Type 0
    Few x = x.number ≡ 0 → length rs ≤ 64

    go : Dec (length rs ≤ 64) → Few (rows_then rs r)
    go (yes d) = λ e. d
    go (no d) = λ e. zero_not_suc (sym (ap (λ (b : Bool). (cond b (returns 14 0 0) r).number) (lt-ltb 64 (length rs) (omega (arith, d)))) ∙ e)

filled_length : (s : List ℕ) (rs : List Row) → length (filled_rows s rs) ≡ length rs
filled_length s [] = refl
filled_length s (r ∷ rs) = ap suc (filled_length s rs)

rows_length : (w₁ w₂ : ℕ) (s : List ℕ) (rs : List Row) → length (firm_rows w₁ w₂ s rs) ≡ length rs
unfolding firm_rows
rows_length w₁ w₂ s rs = go (eqb (firm_returned w₁ w₂ s rs).number 0)
  where
    go : (t : Bool) → length (cond t (filled_rows s rs) rs) ≡ length rs
    go true = filled_length s rs
    go false = refl

-- ---- what is shown

module _ (ws s a b : List ℕ) (f : Q.Quote) (ws' a' b' : List ℕ) (la : 16384 ≡ length a) (lb : 16384 ≡ length b) (x : QuotesWords s ws a b f ws' a' b') where
  abbrev rows : List Row
  rows = rows_in (rows_of_words ws)

  abbrev text : List ℕ
  text = firm_text s rows

  back_is : firm_returned (length a) (length b) s rows ≡ firm_back s rows
  back_is = rw (← la, ← lb)

  number_is : f.number ≡ (firm_back s rows).number
  number_is = x.quotes.quoted.number_is ∙ ap (λ (r : Returned). r.number) back_is

  group_is : decision_in f.group ≡ firm_group room room s rows
  group_is =
      let e : firm_group (length a) (length b) s rows ≡ firm_group room room s rows = rw (← la, ← lb) in
      x.quotes.quoted.group_is ∙ e

  rows_are : rows_in (rows_of_words ws') ≡ firm_rows room room s rows
  rows_are =
      let e : firm_rows (length a) (length b) s rows ≡ firm_rows room room s rows = rw (← la, ← lb) in
      ap (λ (l : List ℕ). rows_in (rows_of_words l)) x.words_are ∙ ap rows_in (rows_back_law x.rows ws) ∙ x.quotes.quoted.rows_are ∙ e

  short : f.number ≡ 0 → length text ≤ 652
  short z =
      let n = few room room s rows (sym number_is ∙ z) in
      let g = group_most (firm_group room room s rows) in
      let m = rows_most (firm_rows room room s rows) in
      let l = rows_length room room s rows in
      let t : length text ≡ length (decided "group" (firm_group room room s rows)) + length (rows_text (firm_rows room room s rows)) = length-append (decided "group" (firm_group room room s rows)) (rows_text (firm_rows room room s rows)) in
      omega (arith, n, g, m, l, t)

  module _ (out : List ℕ) (lo : length out ≡ space) where
    pub firm_answer : f.number ≡ 0 → (is : List ℕ) (next : ℕ) → Written out 0 (quote_text (decision_in f.group) (rows_in (rows_of_words ws'))) is next → Shows (shown_firm s rows) is next
    unfolding shown_firm
    firm_answer z is next w =
        let v : Written out 0 text is next = written_as w (ap₂ quote_text group_is rows_are) in
        let (e, n) = written_over out text is next v (let y = short z in omega (arith, y, lo)) in
        let t : take next is ≡ text = rw (n, e) (take-append_seam text (drop (length text) out)) in
        let q : (firm_back s rows).number ≡ 0 = sym number_is ∙ z in
        record {
          front = t ∙ sym (ap (λ (c : Bool). cond c text (refusal (firm_back s rows).number (firm_back s rows).line (firm_back s rows).length)) (eq-eqb (firm_back s rows).number 0 q));
          within = rw (n, e) (counts_front text (drop (length text) out));
        }

    pub firm_refusal : (f.number ≡ 0 → ⊥) → (is : List ℕ) (next : ℕ) → Written out 0 (refusal f.number f.line f.length) is next → Shows (shown_firm s rows) is next
    unfolding shown_firm
    firm_refusal h is next w =
        let q : (firm_back s rows).number ≡ 0 → ⊥ = λ e. h (number_is ∙ e) in
        shows_line (firm_back s rows) text out out f.number f.line f.length lo number_is (x.quotes.quoted.line_is ∙ ap (λ (r : Returned). r.line) back_is)
        (x.quotes.quoted.length_is ∙ ap (λ (r : Returned). r.length) back_is)
        (sym (ap (λ (c : Bool). cond c (over text out) out) (ne_eqb (firm_back s rows).number 0 q))) (λ e. absurd (q e)) h is next w
