-- A page goes out exactly where an answer would with room enough, and is refused with 1 to 8 exactly as an answer is.
use mathlib.Core.Path.{◌≡◌, refl, sym, ◌∙◌, ap, ap₂}
use mathlib.Core.Bool.{Bool, true, false, cond, ◌||◌}
use mathlib.Core.Logic.{◌⊎◌, inl, inr}
use mathlib.Core.List.{List}
use Prim.Native.Nat.{ℕ, zero, suc, ◌≤◌}
use native.Mathlib.Omega.{arith}
use borrow.Author.Tests.{le-ltb, ltb-false, eq-eqb, ne_eqb}
use lib.Dec.{ltb}
use lib.ListN.{length, take, drop}
use lib.Seq.{take-append_seam}
use Rattle.sheet.specs.Forms.{partial}
use Rattle.sheet.specs.Sheet.{read}
use Rattle.sheet.specs.Answer.{answer}
use Rattle.sheet.specs.Call.{Returned, returns, room, lent_then, refused_then, checked_then, fitted, returned, over, Accepted}
use Rattle.cedar.proofs.Tools.{no_true}
use Rattle.sheet.proofs.reading.Lines.{zero_not_suc}
use Rattle.sheet.proofs.reading.Checked.{lent_by, checked_by, accepted_from, passes}
use Rattle.paged.specs.Page.{page, page_bytes, page_returned, page_written}
use Rattle.paged.proofs.PageLength.{page_length}

-- ---- 1, 2, 3 to 8, then r

abbrev checked : ℕ → ℕ → List ℕ → Returned → Returned
checked work₁ work₂ sheet r = lent_then work₁ work₂ (checked_then partial sheet r)

-- an accepted sheet in slices that are long enough
record Passes (work₁ work₂ : ℕ) (sheet : List ℕ) : Type 0 where
  lent : (ltb work₁ room || ltb work₂ room) ≡ false
  accepted : Accepted partial sheet

module _ (work₁ work₂ : ℕ) (sheet : List ℕ) where
  passed : Passes work₁ work₂ sheet → (r : Returned) → checked work₁ work₂ sheet r ≡ r
  passed p r = ap (λ (b : Bool). cond b (returns 1 0 0) (checked_then partial sheet r)) p.lent ∙ passes partial sheet r p.accepted

  passes_from : (r : Returned) → (checked work₁ work₂ sheet r).number ≡ 0 → Passes work₁ work₂ sheet
  passes_from r =
      lent_by Means work₁ work₂ (checked_then partial sheet r) (λ l e. zero_not_suc e)
      (λ l. checked_by Means partial sheet r (λ e. zero_not_suc e) (λ n q e. zero_not_suc e) (λ h q e. record { lent = l; accepted = accepted_from partial sheet h q }))
    where
      Means : Returned → Type 0
      Means x = x.number ≡ 0 → Passes work₁ work₂ sheet

-- neither slice is too short
both_long : (work₁ work₂ : ℕ) → (ltb work₁ room || ltb work₂ room) ≡ false → (16384 ≤ work₁) × (16384 ≤ work₂)
both_long work₁ work₂ = go (ltb work₁ room) (ltb work₂ room) refl refl
  where
    go : (b c : Bool) → ltb work₁ room ≡ b → ltb work₂ room ≡ c → (b || c) ≡ false → (16384 ≤ work₁) × (16384 ≤ work₂)
    go true c e f h = no_true (sym h)
    go false true e f h = no_true (sym h)
    go false false e f h = (ltb-false work₁ room e, ltb-false work₂ room f)

long_both : (work₁ work₂ : ℕ) → 16384 ≤ work₁ → 16384 ≤ work₂ → (ltb work₁ room || ltb work₂ room) ≡ false
long_both work₁ work₂ h k = ap₂ (λ (b c : Bool). b || c) (le-ltb work₁ room h) (le-ltb work₂ room k)

-- ---- 10, or accepted

fits : (out n : ℕ) → n ≤ out → fitted out n ≡ returns 0 0 n
fits out n h = ap (λ (b : Bool). cond b (returns 10 0 n) (returns 0 0 n)) (le-ltb out n h)

fitting : (out n : ℕ) → (fitted out n).number ≡ 0 → n ≤ out
fitting out n = go (ltb out n) refl
  where
    go : (b : Bool) → ltb out n ≡ b → (cond b (returns 10 0 n) (returns 0 0 n)).number ≡ 0 → n ≤ out
    go true e z = absurd (omega (arith, z))
    go false e z = ltb-false out n e

-- ---- the theorems

-- an accepted sheet, slices long enough, and a buffer of 4,380 bytes
pub record GoesOut (work₁ work₂ out : ℕ) (sheet : List ℕ) : Type 0 where
  pub first : 16384 ≤ work₁
  pub second : 16384 ≤ work₂
  pub accepted : Accepted partial sheet
  pub roomy : 4380 ≤ out

module _ (work₁ work₂ out : ℕ) (sheet : List ℕ) where
  abbrev bytes : ℕ
  bytes = length (answer partial (read partial sheet).state)

  -- AN ANSWER TO THE SAME SHEET in the same slices goes out in every buffer that is long enough for it
  pub page_then_answer : (page_returned work₁ work₂ out sheet).number ≡ 0 → (n : ℕ) → bytes ≤ n → returned partial work₁ work₂ n sheet ≡ returns 0 0 bytes
  unfolding page_returned returned
  page_then_answer e n h = passed work₁ work₂ sheet (passes_from work₁ work₂ sheet (fitted out page_bytes) e) (fitted n bytes) ∙ fits n bytes h

  pub answer_then_page : (n : ℕ) → (returned partial work₁ work₂ n sheet).number ≡ 0 → 4380 ≤ out → page_returned work₁ work₂ out sheet ≡ returns 0 0 4380
  unfolding page_returned returned
  answer_then_page n e h = passed work₁ work₂ sheet (passes_from work₁ work₂ sheet (fitted n bytes) e) (fitted out page_bytes) ∙ fits out page_bytes h

  -- A PAGE GOES OUT EXACTLY THEN
  pub goes_out : (page_returned work₁ work₂ out sheet).number ≡ 0 → GoesOut work₁ work₂ out sheet
  unfolding page_returned
  goes_out e =
      let p = passes_from work₁ work₂ sheet (fitted out page_bytes) e in
      let (l, k) = both_long work₁ work₂ p.lent in
      let r = passed work₁ work₂ sheet p (fitted out page_bytes) in
      record { first = l; second = k; accepted = p.accepted; roomy = fitting out page_bytes (sym (ap (λ (x : Returned). x.number) r) ∙ e) }

  pub page_out : GoesOut work₁ work₂ out sheet → page_returned work₁ work₂ out sheet ≡ returns 0 0 4380
  unfolding page_returned
  page_out g =
      let p : Passes work₁ work₂ sheet = record { lent = long_both work₁ work₂ g.first g.second; accepted = g.accepted } in
      passed work₁ work₂ sheet p (fitted out page_bytes) ∙ fits out page_bytes g.roomy

  -- 1 TO 8 ARE THOSE OF AN ANSWER, number, line and length; else only room is asked: "a shorter buffer gets 10 with that length"
  pub refused_alike : (n : ℕ) → (page_returned work₁ work₂ out sheet ≡ returned partial work₁ work₂ n sheet) ⊎ ((page_returned work₁ work₂ out sheet ≡ fitted out 4380) × (returned partial work₁ work₂ n sheet ≡ fitted n bytes))
  unfolding page_returned returned
  refused_alike n = go (ltb work₁ room || ltb work₂ room) (ltb room (length sheet)) (read partial sheet).number
    where
      p : Returned
      p = fitted out page_bytes

      q : Returned
      q = fitted n bytes

      by : Bool → Bool → ℕ → Returned → Returned
      by x y k r = cond x (returns 1 0 0) (cond y (returns 2 0 0) (refused_then k (read partial sheet).line r))

      go : (x y : Bool) (k : ℕ) → (by x y k p ≡ by x y k q) ⊎ ((by x y k p ≡ p) × (by x y k q ≡ q))
      go true y k = inl refl
      go false true k = inl refl
      go false false zero = inr (refl, refl)
      go false false (suc k) = inl refl

-- ---- the buffer

module _ (work₁ work₂ : ℕ) (buffer sheet : List ℕ) where
  abbrev shown : List ℕ
  shown = page (read partial sheet).state

  -- "The page takes the answer's place in the lent buffer": its first 4,380 bytes
  pub page_in_buffer : (page_returned work₁ work₂ (length buffer) sheet).number ≡ 0 → take 4380 (page_written work₁ work₂ buffer sheet) ≡ shown
  unfolding page_written
  page_in_buffer e =
      ap (λ (b : Bool). take 4380 (cond b (over shown buffer) buffer)) (eq-eqb (page_returned work₁ work₂ (length buffer) sheet).number 0 e)
      ∙ ap (λ (n : ℕ). take n (over shown buffer)) (sym (page_length (read partial sheet).state)) ∙ take-append_seam shown (drop (length shown) buffer)

  pub refusal_leaves : ((page_returned work₁ work₂ (length buffer) sheet).number ≡ 0 → ⊥) → page_written work₁ work₂ buffer sheet ≡ buffer
  unfolding page_written
  refusal_leaves f = ap (λ (b : Bool). cond b (over shown buffer) buffer) (ne_eqb (page_returned work₁ work₂ (length buffer) sheet).number 0 f)
