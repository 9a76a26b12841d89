-- The run on the copy, and what comes before it. Assumes nothing.
use mathlib.Core.Path.{◌≡◌, refl, sym, ◌∙◌, ap, ap₂, subst}
use mathlib.Core.Bool.{Bool, true, false, cond, ◌&&◌, ◌||◌, not}
use mathlib.Core.List.{List, []}
use Prim.Native.Nat.{ℕ, ◌+◌, ◌-◌, ◌≤◌, ◌<◌}
use native.Mathlib.Omega.{arith}
use native.Mathlib.Decide.{dec_le}
use borrow.Author.Tests.{lt-ltb, le-ltb, not-true, not-false}
use lib.ListN.{length, take, drop, drop_of_length-le, take-append-drop}
use lib.Seq.{take-append_seam, take-nil}
use Rattle.words.specs.Log.{part, cleared}
use Rattle.cedar.specs.Types.{among}
use Rattle.cedar.proofs.Tools.{no_true}
use Rattle.sheet.specs.Bytes.{up_to}
use Rattle.sheet.specs.Forms.{partial}
use Rattle.sheet.specs.Sheet.{read}
use Rattle.sheet.specs.Answer.{answer}
use Rattle.sheet.specs.Call.{Returned, returns, outputs, short_then, read_then, returned, written, worked}
use Rattle.print.specs.Written.{Written}
use Rattle.print.proofs.Writing.{written_over}
use Rattle.print.proofs.Sending.{gives_as}
use Rattle.response.specs.Runs.{Gives}
use Rattle.opening.proofs.Lent.{long_enough}
use Rattle.authorizer.specs.Called.{Called}
use Rattle.authorizer.specs.Parts as A
use Rattle.edit.specs.Places.{begin_of, end_from, replaced}
use Rattle.edit.proofs.Lines.{line_at_law, copy_is}
use Rattle.previewed.specs.Preview.{line_of, edited, fills, may_edit, edit_then}
use Rattle.preview.specs.Parts.{answer_of, after_lengths, Tries}

-- a refusal leaves the buffer
refuses : {r : Returned} (bytes out : List ℕ) (number line : ℕ) → r ≡ returns number line 0 → outputs number bytes out ≡ out → Gives r bytes out number line 0 out
refuses bytes out number line e o = gives_as (sym e) (record { number_is = refl; line_is = refl; length_is = refl; buffer = sym o })

-- 2, whatever is returned where it is passed
too_long : (sheet bytes out : List ℕ) (r : Returned) → 16384 < length sheet → Gives (short_then sheet r) bytes out 2 0 0 out
too_long sheet bytes out r h = refuses bytes out 2 0 (ap (λ (b : Bool). cond b (returns 2 0 0) r) (lt-ltb 16384 (length sheet) h)) refl

-- the run on a copy passes 1 too
pub lent : (w₁ w₂ out : ℕ) (copy : List ℕ) → 16384 ≤ w₁ → 16384 ≤ w₂ → returned partial w₁ w₂ out copy ≡ A.after_lengths partial out copy
unfolding returned
lent w₁ w₂ out copy h₁ h₂ = ap₂ (λ (x y : Bool). cond (x || y) (returns 1 0 0) (A.after_lengths partial out copy)) (le-ltb w₁ 16384 h₁) (le-ltb w₂ 16384 h₂)

called : (copy w₁ w₂ out : List ℕ) (number line len : ℕ) (out' v₁ v₂ : List ℕ) → Called partial copy w₁ w₂ out number line len out' v₁ v₂
    → Gives (returned partial (length w₁) (length w₂) (length out) copy) (answer partial (read partial copy).state) out number line len out'
unfolding written
called copy w₁ w₂ out number line len out' v₁ v₂ g = record {
  number_is = g.number_is;
  line_is = g.line_is;
  length_is = g.length_is;
  buffer = g.buffer ∙ ap (λ (k : ℕ). outputs k (answer partial (read partial copy).state) out) (sym g.number_is);
}

-- a call clears work slices that are long enough
both_cleared : (w₁ w₂ : List ℕ) → 16384 ≤ length w₁ → 16384 ≤ length w₂ → (cleared w₁ ≡ worked w₁ (length w₂)) × (cleared w₂ ≡ worked w₂ (length w₁))
both_cleared w₁ w₂ h₁ h₂ =
    let g : Gives (returns 0 0 0) [] [] 0 0 0 [] = record { number_is = refl; line_is = refl; length_is = refl; buffer = refl } in
    let x = long_enough (returns 0 0 0) [] w₁ w₂ [] h₁ h₂ 0 0 0 [] (take 16384 w₁) (take 16384 w₂) (cleared w₁) (cleared w₂) g refl refl (ap cleared (sym (take-append-drop 16384 w₁))) (ap cleared (sym (take-append-drop 16384 w₂))) in
    (x.first, x.second)

-- ---- the copy

module _ (sheet new out : List ℕ) (start end : ℕ) (c₀ c₁ : List ℕ) (c : ℕ) (room : 16384 ≡ length c₀) (copied : Written c₀ 0 (replaced sheet start end new) c₁ c) where
  abbrev copy : List ℕ
  copy = replaced sheet start end new

  pub copy_too_long : 16384 < c → A.Answers partial copy out 2 0 0 out
  copy_too_long h = too_long copy (answer partial (read partial copy).state) out (read_then partial copy (A.after_reading partial (length out) copy)) (omega (arith, copied.place))

  module _ (h : c ≤ 16384) where
    copy_held : take c c₁ ≡ copy
    copy_held =
        let l : length copy ≤ length c₀ = omega (arith, copied.place) in
        let o = written_over c₀ copy c₁ c copied l in
        ap₂ (λ (i : ℕ) (k : List ℕ). take i k) o.1 o.0 ∙ take-append_seam copy (drop (length copy) c₀)

    pub copy_ran : (w₁ w₂ : List ℕ) → 16384 ≤ length w₁ → 16384 ≤ length w₂ → (number line len : ℕ) (out' v₁ v₂ : List ℕ) → Called partial (take c c₁) w₁ w₂ out number line len out' v₁ v₂
        → A.Answers partial copy out number line len out' × ((v₁ ≡ cleared w₁) × (v₂ ≡ cleared w₂))
    copy_ran w₁ w₂ h₁ h₂ number line len out' v₁ v₂ g =
        let k = both_cleared w₁ w₂ h₁ h₂ in (
          subst (λ (l : List ℕ). A.Answers partial l out number line len out') copy_held
              (gives_as (lent (length w₁) (length w₂) (length out) (take c c₁) h₁ h₂) (called (take c c₁) w₁ w₂ out number line len out' v₁ v₂ g)),
          (g.first ∙ sym k.0, g.second ∙ sym k.1),
        )

-- ---- 2, 12, or the run

and_false : (b : Bool) → (b && false) ≡ false
and_false true = refl
and_false false = refl

module _ (sheet : List ℕ) (n : ℕ) (new out : List ℕ) where
  pub kept_too_long : 16384 < length sheet → Tries sheet n new out 2 0 0 out
  kept_too_long h = too_long sheet (answer_of sheet n new) out (edit_then sheet n new (A.after_lengths partial (length out) (edited sheet n new))) h

  module _ (h : length sheet ≤ 16384) (start : ℕ) (sp : start ≡ begin_of sheet n) (end : ℕ) (ep : end ≡ start + up_to 10 (drop start sheet)) (old : List ℕ) (op : old ≡ part sheet start end)
      (t : Bool) (tp : t ≡ fills old new) where
    end_is : end ≡ end_from sheet (begin_of sheet n)
    end_is = ep ∙ ap (end_from sheet) sp

    old_is : old ≡ line_of sheet n
    old_is = op ∙ ap₂ (part sheet) sp end_is ∙ sym (line_at_law sheet n)

    may_is : may_edit sheet n new ≡ t
    unfolding may_edit
    may_is = ap (λ (l : List ℕ). fills l new) (sym old_is) ∙ sym tp

    -- what is returned, by the test
    by_test : (b : Bool) → t ≡ b → cond b (A.after_lengths partial (length out) (edited sheet n new)) (returns 12 n 0) ≡ after_lengths (length out) sheet n new
    by_test b e =
        sym (ap₂ (λ (x y : Bool). cond x (returns 2 0 0) (cond y (A.after_lengths partial (length out) (edited sheet n new)) (returns 12 n 0))) (le-ltb 16384 (length sheet) h) (may_is ∙ e))

    pub not_filled : not t ≡ true → Tries sheet n new out 12 n 0 out
    not_filled e = refuses (answer_of sheet n new) out 12 n (sym (by_test false (not-true t e))) refl

    -- a line that may be filled has bytes
    empty_line : fills [] new ≡ false
    unfolding fills
    empty_line = and_false (not (among 10 new))

    there : t ≡ true → start < length sheet
    there e = go (dec_le (length sheet) start)
      where
        go : Dec (length sheet ≤ start) → start < length sheet
        go (yes l) =
            let z : old ≡ [] = op ∙ ap (take (end - start)) (drop_of_length-le sheet l) ∙ take-nil (end - start) in
            let f : false ≡ true = sym empty_line ∙ ap (λ (k : List ℕ). fills k new) (sym z) ∙ sym tp ∙ e in
            no_true f
        go (no l) = omega arith

    pub copy_tried : not t ≡ false → (number line len : ℕ) (out' : List ℕ) → A.Answers partial (replaced sheet start end new) out number line len out' → Tries sheet n new out number line len out'
    copy_tried e number line len out' g =
        let k : replaced sheet start end new ≡ edited sheet n new = ap₂ (λ (a b : ℕ). replaced sheet a b new) sp end_is ∙ sym (copy_is sheet n new (subst (λ (a : ℕ). a < length sheet) sp (there (not-false t e)))) in
        gives_as (by_test true (not-false t e)) (subst (λ (c : List ℕ). A.Answers partial c out number line len out') k g)
