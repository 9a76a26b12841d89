-- The call by its tests: a work slice too short, a sheet refused, or its page; then the clearing. Assumes nothing.
use mathlib.Core.Path.{◌≡◌, refl, sym, ◌∙◌, ap}
use mathlib.Core.Bool.{Bool, cond}
use mathlib.Core.List.{List, ◌++◌}
use Prim.Native.Nat.{ℕ, zero, suc, ◌≤◌, ◌<◌}
use borrow.Author.Tests.{ne_eqb}
use lib.ListN.{length, take, drop}
use Rattle.words.specs.Log.{cleared}
use Rattle.sheet.specs.Forms.{partial}
use Rattle.sheet.specs.Sheet.{read}
use Rattle.sheet.specs.Call.{Returned, returns, refused_then, checked_then, fitted, over}
use Rattle.print.proofs.Sending.{gives_as}
use Rattle.opening.specs.Opens.{Opens}
use Rattle.opening.specs.Promised.{Promised}
use Rattle.opening.proofs.Lent.{short_first, short_second, long_enough}
use Rattle.paged.specs.Page.{page, page_bytes, page_returned, page_written}
use Rattle.paged.specs.Promise.{Paged}
use Rattle.paged.proofs.PageLength.{page_length}
use Rattle.page.specs.Parts.{Shows, Pages}

-- ---- in slices that are long enough

module _ (sheet : List ℕ) (number line : ℕ) (a b : List ℕ) (x : Opens partial sheet number line a b) (out : List ℕ) where
  abbrev after : Returned
  after = fitted (length out) page_bytes

  -- 2 to 8
  pub refused : (number ≡ 0 → ⊥) → Pages sheet out number line 0 out
  refused f =
      gives_as (go number refl ∙ sym (x.checked after)) (record {
        number_is = refl;
        line_is = refl;
        length_is = refl;
        buffer = sym (ap (λ (t : Bool). cond t (over (page (read partial sheet).state) out) out) (ne_eqb number 0 f));
      })
    where
      go : (n : ℕ) → number ≡ n → returns number line 0 ≡ refused_then n line after
      go zero e = absurd (f e)
      go (suc n) e = ap (λ (t : ℕ). returns t line 0) e

  -- 10, or the page
  pub shown : number ≡ 0 → (n len : ℕ) (out' : List ℕ) → Shows sheet a b out n len out' → Pages sheet out n 0 len out'
  shown z n len out' s =
      gives_as (ap (fitted (length out)) (page_length (read partial sheet).state) ∙ sym (x.checked after ∙ ap (λ (t : ℕ). refused_then t line after) z)) (s (x.holds z))

-- ---- the call

module _ (sheet w₁ w₂ out : List ℕ) where
  abbrev bytes : List ℕ
  bytes = page (read partial sheet).state

  abbrev then : Returned
  then = checked_then partial sheet (fitted (length out) page_bytes)

  promised : (number line len : ℕ) (out' v₁ v₂ : List ℕ) → Promised (page_returned (length w₁) (length w₂) (length out) sheet) bytes w₁ w₂ out number line len out' v₁ v₂
      → Paged sheet w₁ w₂ out number line len out' v₁ v₂
  unfolding page_written
  promised number line len out' v₁ v₂ p = record { number_is = p.number_is; line_is = p.line_is; length_is = p.length_is; buffer = p.buffer; first = p.first; second = p.second }

  pub call_first : length w₁ < 16384 → Paged sheet w₁ w₂ out 1 0 0 out w₁ w₂
  unfolding page_returned
  call_first h = promised 1 0 0 out w₁ w₂ (short_first then bytes w₁ w₂ out h)

  pub call_second : length w₂ < 16384 → Paged sheet w₁ w₂ out 1 0 0 out w₁ w₂
  unfolding page_returned
  call_second h = promised 1 0 0 out w₁ w₂ (short_second then bytes w₁ w₂ out h)

  pub call_paged : 16384 ≤ length w₁ → 16384 ≤ length w₂ → (number line len : ℕ) (out' p₁ p₂ v₁ v₂ : List ℕ) → Pages sheet out number line len out'
      → length p₁ ≡ length (take 16384 w₁) → length p₂ ≡ length (take 16384 w₂) → v₁ ≡ cleared (p₁ ++ drop 16384 w₁) → v₂ ≡ cleared (p₂ ++ drop 16384 w₂)
      → Paged sheet w₁ w₂ out number line len out' v₁ v₂
  unfolding page_returned
  call_paged h₁ h₂ number line len out' p₁ p₂ v₁ v₂ g l₁ l₂ e f = promised number line len out' v₁ v₂ (long_enough then bytes w₁ w₂ out h₁ h₂ number line len out' p₁ p₂ v₁ v₂ g l₁ l₂ e f)
