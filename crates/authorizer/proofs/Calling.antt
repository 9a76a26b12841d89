-- The call by its tests: a work slice too short, or the answer and the clearing. Assumes nothing.
use mathlib.Core.Path.{◌≡◌}
use mathlib.Core.List.{List, ◌++◌}
use Prim.Native.Nat.{ℕ, ◌≤◌, ◌<◌}
use lib.ListN.{length, take, drop}
use Rattle.words.specs.Log.{cleared}
use Rattle.sheet.specs.Forms.{Mode}
use Rattle.sheet.specs.Sheet.{read}
use Rattle.sheet.specs.Answer.{answer}
use Rattle.sheet.specs.Call.{returned, written}
use Rattle.opening.specs.Promised.{Promised}
use Rattle.opening.proofs.Lent.{short_first, short_second, long_enough}
use Rattle.authorizer.specs.Called.{Called}
use Rattle.authorizer.specs.Parts.{after_lengths, Answers}

module _ (m : Mode) (sheet w₁ w₂ out : List ℕ) where
  abbrev bytes : List ℕ
  bytes = answer m (read m sheet).state

  -- what a call promises, of this definition
  called : (number line len : ℕ) (out' v₁ v₂ : List ℕ) → Promised (returned m (length w₁) (length w₂) (length out) sheet) bytes w₁ w₂ out number line len out' v₁ v₂ → Called m sheet w₁ w₂ out number line len out' v₁ v₂
  unfolding written
  called number line len out' v₁ v₂ p = record { number_is = p.number_is; line_is = p.line_is; length_is = p.length_is; buffer = p.buffer; first = p.first; second = p.second }

  pub call_first : length w₁ < 16384 → Called m sheet w₁ w₂ out 1 0 0 out w₁ w₂
  unfolding returned
  call_first h = called 1 0 0 out w₁ w₂ (short_first (after_lengths m (length out) sheet) bytes w₁ w₂ out h)

  pub call_second : length w₂ < 16384 → Called m sheet w₁ w₂ out 1 0 0 out w₁ w₂
  unfolding returned
  call_second h = called 1 0 0 out w₁ w₂ (short_second (after_lengths m (length out) sheet) bytes w₁ w₂ out h)

  pub call_answered : 16384 ≤ length w₁ → 16384 ≤ length w₂ → (number line len : ℕ) (out' p₁ p₂ v₁ v₂ : List ℕ) → Answers m sheet out number line len out'
      → length p₁ ≡ length (take 16384 w₁) → length p₂ ≡ length (take 16384 w₂) → v₁ ≡ cleared (p₁ ++ drop 16384 w₁) → v₂ ≡ cleared (p₂ ++ drop 16384 w₂)
      → Called m sheet w₁ w₂ out number line len out' v₁ v₂
  unfolding returned
  call_answered h₁ h₂ number line len out' p₁ p₂ v₁ v₂ g l₁ l₂ e f =
      called number line len out' v₁ v₂ (long_enough (after_lengths m (length out) sheet) bytes w₁ w₂ out h₁ h₂ number line len out' p₁ p₂ v₁ v₂ g l₁ l₂ e f)
