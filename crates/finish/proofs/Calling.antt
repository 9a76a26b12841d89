-- The call by its tests: a work slice too short, or the answer and the clearing. Assumes nothing.
use mathlib.Core.Path.{◌≡◌}
use mathlib.Core.List.{List, ◌++◌}
use Prim.Native.Nat.{ℕ, ◌≤◌, ◌<◌}
use lib.ListN.{length, take, drop}
use Rattle.words.specs.Log.{cleared}
use Rattle.opening.specs.Promised.{Promised}
use Rattle.opening.proofs.Lent.{short_first, short_second, long_enough}
use Rattle.finished.specs.Finish.{finish_returned, finish_written}
use Rattle.finished.specs.Promise.{Finished}
use Rattle.finish.specs.Parts.{answer_of, after_lengths, Answers}

module _ (p c w₁ w₂ out : List ℕ) where
  -- what the call promises, of this definition
  finished : (number line len : ℕ) (out' v₁ v₂ : List ℕ) → Promised (finish_returned (length w₁) (length w₂) (length out) p c) (answer_of p c) w₁ w₂ out number line len out' v₁ v₂
      → Finished p c w₁ w₂ out number line len out' v₁ v₂
  unfolding finish_written
  finished number line len out' v₁ v₂ x = record { number_is = x.number_is; line_is = x.line_is; length_is = x.length_is; buffer = x.buffer; first = x.first; second = x.second }

  pub finish_first : length w₁ < 16384 → Finished p c w₁ w₂ out 1 0 0 out w₁ w₂
  unfolding finish_returned
  finish_first h = finished 1 0 0 out w₁ w₂ (short_first (after_lengths (length out) p c) (answer_of p c) w₁ w₂ out h)

  pub finish_second : length w₂ < 16384 → Finished p c w₁ w₂ out 1 0 0 out w₁ w₂
  unfolding finish_returned
  finish_second h = finished 1 0 0 out w₁ w₂ (short_second (after_lengths (length out) p c) (answer_of p c) w₁ w₂ out h)

  pub finish_answered : 16384 ≤ length w₁ → 16384 ≤ length w₂ → (number line len : ℕ) (out' p₁ p₂ v₁ v₂ : List ℕ) → Answers (after_lengths (length out) p c) p c out number line len out'
      → length p₁ ≡ length (take 16384 w₁) → length p₂ ≡ length (take 16384 w₂) → v₁ ≡ cleared (p₁ ++ drop 16384 w₁) → v₂ ≡ cleared (p₂ ++ drop 16384 w₂)
      → Finished p c w₁ w₂ out number line len out' v₁ v₂
  unfolding finish_returned
  finish_answered h₁ h₂ number line len out' p₁ p₂ v₁ v₂ g l₁ l₂ e f =
      finished number line len out' v₁ v₂ (long_enough (after_lengths (length out) p c) (answer_of p c) w₁ w₂ out h₁ h₂ number line len out' p₁ p₂ v₁ v₂ g l₁ l₂ e f)
