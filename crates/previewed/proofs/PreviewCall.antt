-- DOCUMENT 02, 2.11, THE CALL: where the line may be replaced it is the run on the copy, number, line, length and buffer; else it gives 12 with the
-- line, after 1 and after 2 for the kept sheet.
use mathlib.Core.Path.{◌≡◌, refl, sym, ◌∙◌, ap, ap₂}
use mathlib.Core.Bool.{Bool, true, false, cond, ◌||◌}
use mathlib.Core.List.{List}
use Prim.Native.Nat.{ℕ, suc, ◌≤◌}
use native.Mathlib.Omega.{arith}
use borrow.Author.Tests.{le-ltb, ltb-true, le-leb, ne_eqb}
use lib.Dec.{leb, ltb, eqb}
use lib.ListN.{length, take}
use Rattle.cedar.proofs.Tools.{or_left}
use Rattle.sheet.specs.Forms.{partial}
use Rattle.sheet.specs.Sheet.{read}
use Rattle.sheet.specs.Answer.{answer}
use Rattle.sheet.specs.Call.{Returned, returns, room, lent_then, short_then, checked_then, fitted, returned, over, outputs, written}
use Rattle.sheet.specs.Demand3.{Answered, bytes_of}
use Rattle.previewed.specs.Preview.{edited, may_edit, edit_then, preview_returned, preview_written}
use Rattle.previewed.specs.Tried.{Tried, bytes_tried}
use Rattle.sheet.proofs.reading.Lines.{zero_not_suc}
use Rattle.sheet.proofs.reading.Checked.{lent_by, short_by, checked_by}
use Rattle.sheet.proofs.reading.Refusals.{read_small}
use Rattle.sheet.proofs.answer.AnswerLength.{most_answer, answer_most}

module _ (sheet : List ℕ) (n : ℕ) (new : List ℕ) where
  abbrev copy : List ℕ
  copy = edited sheet n new

  -- ---- the line may be replaced

  module _ (short : length sheet ≤ room) (may : may_edit sheet n new ≡ true) where
    -- WHAT IS RETURNED IS WHAT A RUN ON THE COPY RETURNS, 1 and 2 and all
    pub preview_runs : (work₁ work₂ out : ℕ) → preview_returned work₁ work₂ out sheet n new ≡ returned partial work₁ work₂ out copy
    unfolding preview_returned returned
    preview_runs work₁ work₂ out = rw (le-ltb room (length sheet) short, may) (twice (ltb work₁ room || ltb work₂ room) (checked_then partial copy (fitted out (length (answer partial (read partial copy).state)))))
      where
        -- 1 is asked again by the run
        twice : (b : Bool) (r : Returned) → cond b (returns 1 0 0) (cond b (returns 1 0 0) r) ≡ cond b (returns 1 0 0) r
        twice true r = refl
        twice false r = refl

    -- AND EVERY BYTE OF THE BUFFER IS WHAT IT LEAVES
    pub preview_writes : (work₁ work₂ : ℕ) (buffer : List ℕ) → preview_written work₁ work₂ buffer sheet n new ≡ written partial work₁ work₂ buffer copy
    unfolding preview_written written
    preview_writes work₁ work₂ buffer = ap (λ (r : Returned). outputs r.number (answer partial (read partial copy).state) buffer) (preview_runs work₁ work₂ (length buffer))

  -- ---- it may not: 12, WITH THE LINE

  pub preview_twelve : length sheet ≤ room → may_edit sheet n new ≡ false → (work₁ work₂ out : ℕ) → (ltb work₁ room || ltb work₂ room) ≡ false → preview_returned work₁ work₂ out sheet n new ≡ returns 12 n 0
  unfolding preview_returned
  preview_twelve short may work₁ work₂ out lent = rw (lent, le-ltb room (length sheet) short, may) refl

  -- EVERY REFUSAL LEAVES THE ANSWER BUFFER AS IT WAS
  pub preview_leaves : (work₁ work₂ : ℕ) (buffer : List ℕ) → ((preview_returned work₁ work₂ (length buffer) sheet n new).number ≡ 0 → ⊥) → preview_written work₁ work₂ buffer sheet n new ≡ buffer
  unfolding preview_written
  preview_leaves work₁ work₂ buffer f = ap (λ (b : Bool). cond b (over (answer partial (read partial copy).state) buffer) buffer) (ne_eqb (preview_returned work₁ work₂ (length buffer) sheet n new).number 0 f)

-- ---- the table of numbers: 0 to 8, 10 and 12

abbrev pub tabled : ℕ → Bool
tabled n = leb n 8 || eqb n 10 || eqb n 12

-- EVERY NUMBER RETURNED IS ONE OF THESE, AND A BUFFER OF 1,048,576 BYTES NEVER MEETS 10
pub record InTable (out number : ℕ) : Type 0 where
  pub is_tabled : tabled number ≡ true
  pub never_ten : most_answer ≤ out → number ≡ 10 → ⊥

pub preview_numbers : (work₁ work₂ out : ℕ) (sheet : List ℕ) (n : ℕ) (new : List ℕ) → InTable out (preview_returned work₁ work₂ out sheet n new).number
unfolding preview_returned returned
preview_numbers work₁ work₂ out sheet n new =
    lent_by Ok work₁ work₂ (short_then sheet (edit_then sheet n new run)) (λ x. small 1 (omega arith))
    (λ x. short_by Ok sheet (edit_then sheet n new run) (small 2 (omega arith)) (λ h. go (may_edit sheet n new)))
  where
    copy : List ℕ
    copy = edited sheet n new

    bytes : ℕ
    bytes = length (answer partial (read partial copy).state)

    run : Returned
    run = lent_then work₁ work₂ (checked_then partial copy (fitted out bytes))

    Ok : Returned → Type 0
    Ok r = InTable out r.number

    small : (n : ℕ) → n ≤ 8 → InTable out n
    small n h = record { is_tabled = or_left (leb n 8 || eqb n 10) (eqb n 12) (or_left (leb n 8) (eqb n 10) (le-leb n 8 h)); never_ten = λ b e. omega (arith, e, h) }

    fits : (b : Bool) → ltb out bytes ≡ b → bytes ≤ most_answer → Ok (cond b (returns 10 0 bytes) (returns 0 0 bytes))
    fits true q h = record { is_tabled = refl; never_ten = λ k e. let z = ltb-true out bytes q in omega (arith, h, k, z) }
    fits false q h = small 0 (omega arith)

    ran : Ok run
    ran = lent_by Ok work₁ work₂ (checked_then partial copy (fitted out bytes)) (λ x. small 1 (omega arith))
        (λ x. checked_by Ok partial copy (fitted out bytes) (small 2 (omega arith)) (λ n q. small (suc n) (let z = read_small partial copy in omega (arith, q, z)))
        (λ h q. fits (ltb out bytes) refl (answer_most partial copy h q)))

    go : (b : Bool) → Ok (cond b run (returns 12 n 0))
    go true = ran
    go false = record { is_tabled = refl; never_ten = λ k e. omega (arith, e) }

-- ---- number 0: the line was replaced, and the copy is accepted

pub record Passed (sheet : List ℕ) (n : ℕ) (new : List ℕ) : Type 0 where
  pub short : length sheet ≤ room
  pub may : may_edit sheet n new ≡ true

pub passed : (work₁ work₂ out : ℕ) (sheet : List ℕ) (n : ℕ) (new : List ℕ) → (preview_returned work₁ work₂ out sheet n new).number ≡ 0 → Passed sheet n new
unfolding preview_returned
passed work₁ work₂ out sheet n new =
    lent_by Means work₁ work₂ (short_then sheet (edit_then sheet n new run)) (λ x e. zero_not_suc e)
    (λ x. short_by Means sheet (edit_then sheet n new run) (λ e. zero_not_suc e) (λ h. go h (may_edit sheet n new) refl))
  where
    run : Returned
    run = returned partial work₁ work₂ out (edited sheet n new)

    Means : Returned → Type 0
    Means r = r.number ≡ 0 → Passed sheet n new

    go : length sheet ≤ room → (b : Bool) → may_edit sheet n new ≡ b → Means (cond b run (returns 12 n 0))
    go h true q e = record { short = h; may = q }
    go h false q e = zero_not_suc e

module _ {sheet : List ℕ} {n : ℕ} {new : List ℕ} (x : Tried sheet n new) where
  it_passed : Passed sheet n new
  it_passed = passed x.work₁ x.work₂ (length x.buffer) sheet n new x.zero_number

  pub tried_may : may_edit sheet n new ≡ true
  tried_may = it_passed.may

  -- the run on the copy, in the same slices and buffer
  pub answered : Answered partial (edited sheet n new)
  answered = record {
    work₁ = x.work₁;
    work₂ = x.work₂;
    buffer = x.buffer;
    zero_number = sym (ap (λ (r : Returned). r.number) (preview_runs sheet n new it_passed.short it_passed.may x.work₁ x.work₂ (length x.buffer))) ∙ x.zero_number;
  }

  -- THE BYTES OF THE TWO ANSWERS ARE THE SAME
  pub tried_bytes : bytes_tried x ≡ bytes_of answered
  unfolding answered
  tried_bytes =
      let short = it_passed.short in
      let may = it_passed.may in
      ap₂ (λ (r : Returned) (b : List ℕ). take r.length b) (preview_runs sheet n new short may x.work₁ x.work₂ (length x.buffer)) (preview_writes sheet n new short may x.work₁ x.work₂ x.buffer)
