-- One law for each way through the code. Assumes nothing.
use mathlib.Core.Path.{◌≡◌, refl, sym, ap, ◌∙◌}
use mathlib.Core.Bool.{Bool, true, false}
use mathlib.Core.List.{List, [], ◌∷◌}
use Prim.Native.Nat.{ℕ, ◌-◌, ◌≤◌}
use native.Mathlib.Omega.{arith}
use lib.ListN.{get_or, take, length}
use types.Run.{OneOf, miss}
use denote.Enum.Declared.{tag_of}
use Rattle.value.specs.contracts.Shape.{the_type}
use Rattle.cedar.specs.Residual.{copen, truth}
use Rattle.cedar.specs.Numbered.{r_bool}
use Rattle.sheet.specs.Forms.{items, NODE}
use Rattle.sheet.specs.State.{value_row}
use Rattle.value.specs.Lines.{value_lines}
use Rattle.value.specs.Shapes.{shape_of, shape_row}
use Rattle.value.specs.declared.Shape.{Shape}
use Rattle.value.specs.declared.Shape.TheVariants.{Bool as Boolˢ, Long, Text, Entity, Set, Record}
use Rattle.value.proofs.Shaped.{shape_row_law}
use Rattle.words.specs.Log.{appended, Appended, Room}
use Rattle.words.proofs.Logs.{append_holds, holds_as, holds_from, holds_room, log_cut, log_length}
use Rattle.value.specs.Made.{bool_row, Made}
use Rattle.residual.specs.Rows.{lit_row, left_row, stage_at}
use Rattle.residual.specs.Errs.{errs}
use Rattle.residual.specs.declared.Stage.{Stage}
use Rattle.residual.specs.declared.Stage.TheVariants.{Value, Error, Open}
use Rattle.lookup.proofs.Shapes.{row_in}
use Rattle.tpe.specs.Run.{lit_of, made_of, left_of, decided_by, class_by}
use Rattle.tpe.specs.Classes.{class_in}
use Rattle.tpe.specs.Leaves.{Leaves}
use Rattle.table.specs.Layout.{rows_of}
use Rattle.tpe.proofs.Slices.{errs_log}
use Rattle.tpe.specs.declared.Class.{Class as Classᶜ}
use Rattle.tpe.specs.declared.Class.TheVariants.{True, False, Error as Errorᶜ, Open as Openᶜ}

pub by_shape : (a : List ℕ) (v : ℕ) (q : List ℕ) → q ≡ get_or (value_lines a) v [] → class_by a (Value v) ≡ r_bool copen (shape_row (shape_of q) (items q)) truth
unfolding class_by
by_shape a v q eq = ap (λ r. r_bool copen r truth) (row_in (value_lines a) v ∙ ap value_row (sym eq) ∙ shape_row_law q)

module _ (a b : List ℕ) (e : ℕ) (s : Stage) (es : s ≡ stage_at b e) where
  pub at_value : (v : ℕ) (c : Classᶜ) → s ≡ Value v → class_in c ≡ class_by a (Value v) → class_in c ≡ class_by a (stage_at b e)
  at_value v c q h = h ∙ ap (class_by a) (sym q ∙ es)

  pub at_error : s ≡ Error → class_in Errorᶜ ≡ class_by a (stage_at b e)
  unfolding class_by
  at_error q = ap (class_by a) (sym q ∙ es)

  pub at_open : s ≡ Open → class_in Openᶜ ≡ class_by a (stage_at b e)
  unfolding class_by
  at_open q = ap (class_by a) (sym q ∙ es)

-- a value made, then pushed
pub made_pushed : (a a' b b' r : List ℕ) (bt e y v : ℕ) → Room b bt → Made a r a' v → Appended b bt (lit_row v y) b' e → Leaves bt a' b' e (made_of a (take bt b) y r)
unfolding made_of lit_of
made_pushed a a' b b' r bt e y v room m p = record {
  words = m.words;
  log = holds_as (append_holds room p) (ap (λ (x : ℕ). appended (take bt b) (lit_row x y)) m.number);
}

-- the same in the place of what stands from `start` on
pub made_over : (a a' b b' r : List ℕ) (start bt e y v : ℕ) → Room b bt → start ≤ bt → Made a r a' v → Appended b start (lit_row v y) b' e → Leaves start a' b' e (made_of a (take start b) y r)
made_over a a' b b' r start bt e y v room h m p = made_pushed a a' b b' r start e y v (record { low = omega (arith, room.low); long = room.long }) m p

-- `decided`
module _ (a b : List ℕ) (start mid bt n y : ℕ) (z x : Bool) (room : Room b bt) (order : (start ≤ mid) × (mid ≤ bt)) (ex : x ≡ errs (rows_of a NODE) b mid) where
  test_log : x ≡ errs (rows_of a NODE) (take bt b) mid
  test_log = ex ∙ errs_log b bt (rows_of a NODE) mid order.1

  pub decided_made : (a' b' : List ℕ) (e : ℕ) → x ≡ false → Leaves start a' b' e (made_of a (take start b) y (bool_row z))
      → Leaves start a' b' e (decided_by z start n y mid a (take bt b) (errs (rows_of a NODE) (take bt b) mid))
  unfolding decided_by
  decided_made a' b' e f h = rw (← test_log, f, log_cut b bt start (omega (arith, order.0, order.1))) h

  pub decided_kept : (a' b₁ b₂ : List ℕ) (p e : ℕ) → x ≡ true → Room b₁ p → Leaves mid a' b₁ p (made_of a (take mid b) y (bool_row z)) → Appended b₁ p (left_row n 0 (p - start) y) b₂ e
      → Leaves start a' b₂ e (decided_by z start n y mid a (take bt b) (errs (rows_of a NODE) (take bt b) mid))
  unfolding decided_by made_of lit_of left_of
  decided_kept a' b₁ b₂ p e f r h q =
      let len : length (take p b₁) ≡ p = log_length b₁ p r in
      rw (← test_log, f, log_cut b bt mid order.1)
      (record { words = h.words; log = holds_as (holds_from (append_holds r q) (omega (arith, order.0, h.log.grows))) (ap (λ (j : ℕ). appended (take p b₁) (left_row n 0 (j - start) y)) (sym len) ∙ ap (λ (l : List ℕ). appended l (left_row n 0 (length l - start) y)) h.log.is) })
