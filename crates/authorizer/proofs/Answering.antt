-- A sheet refused, or opened and answered. Assumes nothing.
use mathlib.Core.Path.{◌≡◌, refl, sym, ◌∙◌, ap}
use mathlib.Core.Bool.{Bool, true, false, cond}
use mathlib.Core.List.{List}
use Prim.Native.Nat.{ℕ, zero, suc}
use borrow.Author.Tests.{ne_eqb}
use lib.ListN.{length}
use Rattle.sheet.specs.Forms.{Mode, partial, complete}
use Rattle.sheet.specs.Sheet.{read}
use Rattle.sheet.specs.Answer.{answer}
use Rattle.sheet.specs.Call.{returns, refused_then, over}
use Rattle.line.specs.Codes.{mode_of}
use Rattle.response.specs.Runs.{Runs}
use Rattle.response.proofs.Sending.{gives_as}
use Rattle.opening.specs.Opens.{Opens}
use Rattle.authorizer.specs.Parts.{after_reading, Answers}

module _ (m : Mode) (sheet : List ℕ) (number line : ℕ) (a b : List ℕ) (x : Opens m sheet number line a b) (out : List ℕ) where
  -- 2 to 8
  pub refused : (number ≡ 0 → ⊥) → Answers m sheet out number line 0 out
  refused f =
      gives_as (go number refl ∙ sym (x.checked (after_reading m (length out) sheet))) (record {
        number_is = refl;
        line_is = refl;
        length_is = refl;
        buffer = sym (ap (λ (t : Bool). cond t (over (answer m (read m sheet).state) out) out) (ne_eqb number 0 f));
      })
    where
      go : (n : ℕ) → number ≡ n → returns number line 0 ≡ refused_then n line (after_reading m (length out) sheet)
      go zero e = absurd (f e)
      go (suc n) e = ap (λ (t : ℕ). returns t line 0) e

  -- 10, or accepted
  accepted : number ≡ 0 → (n len : ℕ) (out' : List ℕ) → Runs m sheet a b out n len out' → Answers m sheet out n 0 len out'
  accepted z n len out' s = gives_as (sym (x.checked (after_reading m (length out) sheet) ∙ ap (λ (t : ℕ). refused_then t line (after_reading m (length out) sheet)) z)) (s (x.holds z))

-- by the test of the code
module _ (p : Bool) (sheet : List ℕ) (number line : ℕ) (a b : List ℕ) (x : Opens (mode_of p) sheet number line a b) (z : number ≡ 0) (out : List ℕ) (n len : ℕ) (out' : List ℕ) where
  pub partial_when : p ≡ true → Runs partial sheet a b out n len out' → Answers (mode_of p) sheet out n 0 len out'
  partial_when e s = accepted (mode_of p) sheet number line a b x out z n len out' (rw e s)

  pub complete_when : p ≡ false → Runs complete sheet a b out n len out' → Answers (mode_of p) sheet out n 0 len out'
  complete_when e s = accepted (mode_of p) sheet number line a b x out z n len out' (rw e s)
