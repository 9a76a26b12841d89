-- DOCUMENT 02, 2.1, FROM BYTES TO BYTES: where the call gives an answer it is the complete sheet's own call, number, line, length and buffer;
-- it gives 11 exactly where both sheets are accepted and do not agree, and 1 to 8 where the partial sheet's own call, or else the complete
-- sheet's, does.
use mathlib.Core.Path.{◌≡◌, refl, sym, ◌∙◌, ap, subst}
use mathlib.Core.Bool.{Bool, true, false, cond, ◌||◌}
use mathlib.Core.List.{List}
use Prim.Native.Nat.{ℕ, zero, suc, ◌≤◌}
use native.Mathlib.Omega.{arith}
use borrow.Author.Tests.{ltb-true, le-leb}
use lib.Dec.{ltb, leb, eqb}
use lib.ListN.{length}
use Rattle.cedar.proofs.Tools.{no_true, or_left}
use Rattle.sheet.specs.Forms.{partial, complete}
use Rattle.sheet.specs.State.{State}
use Rattle.sheet.specs.Sheet.{read}
use Rattle.sheet.specs.Answer.{answer}
use Rattle.sheet.specs.Call.{Returned, returns, room, lent_then, checked_then, fitted, returned, outputs, written, Accepted}
use Rattle.sheet.specs.Agreement.{agrees}
use Rattle.finished.specs.Finish.{breaking_line, finished_answer, at_line, finish_returned, finish_written}
use Rattle.sheet.proofs.reading.Lines.{zero_not_suc}
use Rattle.sheet.proofs.reading.Checked.{lent_by, checked_by, same_refusal, accepted_from, passes}
use Rattle.sheet.proofs.reading.Refusals.{read_small}
use Rattle.sheet.proofs.answer.AnswerLength.{most_answer, answer_most}
use Rattle.finished.proofs.FinishAgrees.{no_break_agrees, agrees_no_break}
use Rattle.finished.proofs.FinishEqual.{finished_answer_law}

-- ---- "Both sheets pass their own checks first, the partial one before the other."

not_fitted : (out n k : ℕ) (r : Returned) → r.number ≡ suc k → suc k ≤ 8 → r ≡ fitted out n → ⊥
not_fitted out n k r e h q = go (ltb out n) (ap (λ (x : Returned). x.number) (sym q) ∙ e)
  where
    go : (b : Bool) → (cond b (returns 10 0 n) (returns 0 0 n)).number ≡ suc k → ⊥
    go true e = omega (arith, e, h)
    go false e = omega (arith, e)

module _ (work₁ work₂ out : ℕ) (p c : List ℕ) (k : ℕ) (small : suc k ≤ 8) where
  -- 1 to 8 OF THE PARTIAL SHEET: what its own call returns
  pub partial_refused : (returned partial work₁ work₂ out p).number ≡ suc k → finish_returned work₁ work₂ out p c ≡ returned partial work₁ work₂ out p
  unfolding finish_returned returned
  partial_refused e =
      let s = (read partial p).state in
      let t = (read complete c).state in
      let r = fitted out (length (answer partial s)) in
      sym (same_refusal partial p work₁ work₂ r (checked_then complete c (at_line s t out (breaking_line s t))) (not_fitted out (length (answer partial s)) k (lent_then work₁ work₂ (checked_then partial p r)) e small))

  -- THEN THOSE OF THE COMPLETE ONE
  pub complete_refused : Accepted partial p → (returned complete work₁ work₂ out c).number ≡ suc k → finish_returned work₁ work₂ out p c ≡ returned complete work₁ work₂ out c
  unfolding finish_returned returned
  complete_refused a e =
      let s = (read partial p).state in
      let t = (read complete c).state in
      let r = fitted out (length (answer complete t)) in
      ap (lent_then work₁ work₂) (passes partial p (checked_then complete c (at_line s t out (breaking_line s t))) a)
      ∙ sym (same_refusal complete c work₁ work₂ r (at_line s t out (breaking_line s t)) (not_fitted out (length (answer complete t)) k (lent_then work₁ work₂ (checked_then complete c r)) e small))

-- ---- past them

module _ (p c : List ℕ) (ap' : Accepted partial p) (ac : Accepted complete c) where
  abbrev P : State
  P = (read partial p).state

  abbrev C : State
  C = (read complete c).state

  -- past the checks of both sheets
  finish_at : (work₁ work₂ out : ℕ) → finish_returned work₁ work₂ out p c ≡ lent_then work₁ work₂ (at_line P C out (breaking_line P C))
  unfolding finish_returned
  finish_at work₁ work₂ out = ap (lent_then work₁ work₂) (passes partial p (checked_then complete c (at_line P C out (breaking_line P C))) ap' ∙ passes complete c (at_line P C out (breaking_line P C)) ac)

  -- the complete sheet's own call
  complete_at : (work₁ work₂ out : ℕ) → returned complete work₁ work₂ out c ≡ lent_then work₁ work₂ (fitted out (length (answer complete C)))
  unfolding returned
  complete_at work₁ work₂ out = ap (lent_then work₁ work₂) (passes complete c (fitted out (length (answer complete C))) ac)

  -- THEY AGREE: WHAT IS RETURNED, AND EVERY BYTE OF THE BUFFER, IS THAT OF THE COMPLETE SHEET'S OWN CALL
  module _ (ag : agrees P C ≡ true) where
    pub finish_is_complete : (work₁ work₂ out : ℕ) → finish_returned work₁ work₂ out p c ≡ returned complete work₁ work₂ out c
    finish_is_complete work₁ work₂ out = finish_at work₁ work₂ out
        ∙ ap (λ n. lent_then work₁ work₂ (at_line P C out n)) (agrees_no_break P C ag)
        ∙ ap (λ b. lent_then work₁ work₂ (fitted out (length b))) (finished_answer_law p c ap' ac ag)
        ∙ sym (complete_at work₁ work₂ out)

    pub finish_writes_complete : (work₁ work₂ : ℕ) (buffer : List ℕ) → finish_written work₁ work₂ buffer p c ≡ written complete work₁ work₂ buffer c
    unfolding finish_written written
    finish_writes_complete work₁ work₂ buffer = λ i. outputs (finish_is_complete work₁ work₂ (length buffer) i).number (finished_answer_law p c ap' ac ag i) buffer

  -- THEY DO NOT AGREE: 11, with the first breaking line
  module _ (ag : agrees P C ≡ false) (work₁ work₂ out : ℕ) (long : (ltb work₁ room || ltb work₂ room) ≡ false) where
    pub finish_eleven : finish_returned work₁ work₂ out p c ≡ returns 11 (breaking_line P C) 0
    finish_eleven = finish_at work₁ work₂ out ∙ ap (λ b. cond b (returns 1 0 0) (at_line P C out (breaking_line P C))) long ∙ go (breaking_line P C) refl
      where
        go : (n : ℕ) → breaking_line P C ≡ n → at_line P C out n ≡ returns 11 n 0
        go zero e = no_true (sym ag ∙ no_break_agrees P C e)
        go (suc n) e = refl

-- ---- what an answer means

-- ACCEPTED: both sheets are accepted, and they agree
pub record Finishes (p c : List ℕ) : Type 0 where
  pub first : Accepted partial p
  pub second : Accepted complete c
  pub agree : agrees (read partial p).state (read complete c).state ≡ true

pub finish_accepted : (work₁ work₂ out : ℕ) (p c : List ℕ) → (finish_returned work₁ work₂ out p c).number ≡ 0 → Finishes p c
unfolding finish_returned
finish_accepted work₁ work₂ out p c =
    lent_by Means work₁ work₂ (checked_then partial p (checked_then complete c last)) (λ x e. zero_not_suc e)
    (λ x. checked_by Means partial p (checked_then complete c last) (λ e. zero_not_suc e) (λ n q e. zero_not_suc e) (λ hp ep.
    checked_by Means complete c last (λ e. zero_not_suc e) (λ n q e. zero_not_suc e) (λ hc ec. go (accepted_from partial p hp ep) (accepted_from complete c hc ec) (breaking_line s t) refl)))
  where
    s : State
    s = (read partial p).state

    t : State
    t = (read complete c).state

    last : Returned
    last = at_line s t out (breaking_line s t)

    Means : Returned → Type 0
    Means r = r.number ≡ 0 → Finishes p c

    go : Accepted partial p → Accepted complete c → (l : ℕ) → breaking_line s t ≡ l → Means (at_line s t out l)
    go a b zero q e = record { first = a; second = b; agree = no_break_agrees s t q }
    go a b (suc l) q e = zero_not_suc e

-- ---- the table of numbers: 0 to 8, 10 and 11

abbrev pub tabled : ℕ → Bool
tabled n = leb n 8 || eqb n 10 || eqb n 11

-- EVERY NUMBER RETURNED IS ONE OF THESE, AND A BUFFER OF 1,048,576 BYTES NEVER MEETS 10
pub record InTable (out number : ℕ) : Type 0 where
  pub is_tabled : tabled number ≡ true
  pub never_ten : most_answer ≤ out → number ≡ 10 → ⊥

small_number : (out n : ℕ) → n ≤ 8 → InTable out n
small_number out n h = record { is_tabled = or_left (leb n 8 || eqb n 10) (eqb n 11) (or_left (leb n 8) (eqb n 10) (le-leb n 8 h)); never_ten = λ b e. omega (arith, e, h) }

pub finish_numbers : (work₁ work₂ out : ℕ) (p c : List ℕ) → InTable out (finish_returned work₁ work₂ out p c).number
unfolding finish_returned
finish_numbers work₁ work₂ out p c =
    lent_by Ok work₁ work₂ (checked_then partial p (checked_then complete c last)) (λ x. small_number out 1 (omega arith))
    (λ x. checked_by Ok partial p (checked_then complete c last) (small_number out 2 (omega arith)) (λ n q. small_number out (suc n) (let z = read_small partial p in omega (arith, q, z))) (λ hp ep.
    checked_by Ok complete c last (small_number out 2 (omega arith)) (λ n q. small_number out (suc n) (let z = read_small complete c in omega (arith, q, z))) (λ hc ec. at_line_law (accepted_from partial p hp ep) (accepted_from complete c hc ec) hc ec (breaking_line s t) refl)))
  where
    s : State
    s = (read partial p).state

    t : State
    t = (read complete c).state

    last : Returned
    last = at_line s t out (breaking_line s t)

    Ok : Returned → Type 0
    Ok r = InTable out r.number

    fits : (n : ℕ) (b : Bool) → ltb out n ≡ b → n ≤ most_answer → Ok (cond b (returns 10 0 n) (returns 0 0 n))
    fits n true q h = record { is_tabled = refl; never_ten = λ k e. let z = ltb-true out n q in omega (arith, h, k, z) }
    fits n false q h = small_number out 0 (omega arith)

    at_line_law : Accepted partial p → Accepted complete c → length c ≤ room → (read complete c).number ≡ 0 → (l : ℕ) → breaking_line s t ≡ l → Ok (at_line s t out l)
    at_line_law a b h e zero q =
        let g = no_break_agrees s t q in
        fits (length (finished_answer s t)) (ltb out (length (finished_answer s t))) refl (subst (λ (w : List ℕ). length w ≤ most_answer) (sym (finished_answer_law p c a b g)) (answer_most complete c h e))
    at_line_law a b h e (suc l) q = record { is_tabled = refl; never_ten = λ k e. omega (arith, e) }
