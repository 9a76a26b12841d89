-- The call by its tests: a work slice too short, or what was tried. Assumes nothing.
use mathlib.Core.Path.{◌≡◌, refl, sym, ◌∙◌, ap}
use mathlib.Core.List.{List}
use Prim.Native.Nat.{ℕ, ◌≤◌, ◌<◌}
use lib.ListN.{length, take, take-append-drop}
use Rattle.words.specs.Log.{cleared}
use Rattle.sheet.specs.Forms.{partial}
use Rattle.sheet.specs.Call.{Returned, short_then, returned}
use Rattle.print.proofs.Sending.{gives_as}
use Rattle.opening.specs.Promised.{Promised}
use Rattle.opening.proofs.Lent.{short_first, short_second, long_enough}
use Rattle.previewed.specs.Preview.{edited, edit_then, preview_returned, preview_written}
use Rattle.previewed.specs.Promise.{Previewed}
use Rattle.preview.specs.Parts.{answer_of, Tries}
use Rattle.preview.proofs.Trying.{lent}

module _ (sheet : List ℕ) (n : ℕ) (new w₁ w₂ out : List ℕ) where
  -- what is returned where both work slices are long enough
  abbrev next : Returned
  next = short_then sheet (edit_then sheet n new (returned partial (length w₁) (length w₂) (length out) (edited sheet n new)))

  -- what the call promises, of this definition
  previewed : (number line len : ℕ) (out' v₁ v₂ : List ℕ) → Promised (preview_returned (length w₁) (length w₂) (length out) sheet n new) (answer_of sheet n new) w₁ w₂ out number line len out' v₁ v₂
      → Previewed sheet n new w₁ w₂ out number line len out' v₁ v₂
  unfolding preview_written
  previewed number line len out' v₁ v₂ x = record { number_is = x.number_is; line_is = x.line_is; length_is = x.length_is; buffer = x.buffer; first = x.first; second = x.second }

  pub preview_first : length w₁ < 16384 → Previewed sheet n new w₁ w₂ out 1 0 0 out w₁ w₂
  unfolding preview_returned
  preview_first h = previewed 1 0 0 out w₁ w₂ (short_first next (answer_of sheet n new) w₁ w₂ out h)

  pub preview_second : length w₂ < 16384 → Previewed sheet n new w₁ w₂ out 1 0 0 out w₁ w₂
  unfolding preview_returned
  preview_second h = previewed 1 0 0 out w₁ w₂ (short_second next (answer_of sheet n new) w₁ w₂ out h)

  module _ (h₁ : 16384 ≤ length w₁) (h₂ : 16384 ≤ length w₂) where
    pub preview_tried : (number line len : ℕ) (out' v₁ v₂ : List ℕ) → Tries sheet n new out number line len out' → v₁ ≡ cleared w₁ → v₂ ≡ cleared w₂ → Previewed sheet n new w₁ w₂ out number line len out' v₁ v₂
    unfolding preview_returned
    preview_tried number line len out' v₁ v₂ g e f =
        previewed number line len out' v₁ v₂ (long_enough next (answer_of sheet n new) w₁ w₂ out h₁ h₂ number line len out' (take 16384 w₁) (take 16384 w₂) v₁ v₂
        (gives_as (ap (λ (r : Returned). short_then sheet (edit_then sheet n new r)) (sym (lent (length w₁) (length w₂) (length out) (edited sheet n new) h₁ h₂))) g) refl refl
        (e ∙ ap cleared (sym (take-append-drop 16384 w₁))) (f ∙ ap cleared (sym (take-append-drop 16384 w₂))))
