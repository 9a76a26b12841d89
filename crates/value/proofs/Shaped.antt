-- Values by number, and what their rows say. Assumes nothing.
use mathlib.Core.Path.{◌≡◌, refl, sym, ap, ◌∙◌}
use mathlib.Core.Bool.{false}
use mathlib.Core.List.{List, [], ◌∷◌}
use Prim.Native.Nat.{ℕ, zero, suc, ◌+◌, ◌-◌, ◌*◌, ◌≤◌, ◌<◌}
use native.Mathlib.Omega.{arith}
use lib.Dec.{eqb}
use lib.ListN.{length, get_or, drop, take, length-append, get_or-eq_default}
use lib.Seq.{take_all}
use Rattle.sheet.specs.Forms.{tag, items, at, VALUE, first_value}
use Rattle.sheet.specs.State.{value_row}
use Rattle.table.specs.Layout.{rows_of, MADE}
use Rattle.table.proofs.Rows.{count_rows}
use Rattle.forms.specs.Tags.{LONG_VALUE, TEXT_VALUE, ENTITY_VALUE, SET_VALUE, RECORD_VALUE}
use Rattle.value.specs.Lines.{value_lines}
use Rattle.value.specs.Shapes.{shape_of, shape_row}
use Rattle.value.specs.declared.Shape.{Shape}
use Rattle.value.specs.declared.Shape.TheVariants.{Bool as Boolˢ, Long, Text, Entity, Set, Record}
use Rattle.value.proofs.Lists.{get_d_first, get_d_second}

-- ---- by number

module _ (a : List ℕ) (n : ℕ) (en : n ≡ get_or a VALUE 0) where
  first_length : n ≡ length (rows_of a VALUE)
  first_length = en ∙ sym (count_rows a VALUE)

  pub row_given : (v : ℕ) (q : List ℕ) → v < n → q ≡ get_or (rows_of a VALUE) v [] → q ≡ get_or (value_lines a) v []
  unfolding value_lines
  row_given v q h e = get_d_first (rows_of a VALUE) (rows_of a MADE) [] v n q first_length h e

  pub row_made : (v : ℕ) (q : List ℕ) → n ≤ v → q ≡ get_or (rows_of a MADE) (v - n) [] → q ≡ get_or (value_lines a) v []
  unfolding value_lines
  row_made v q h e = get_d_second (rows_of a VALUE) (rows_of a MADE) [] v n q first_length h e

  pub row_absent : (v m : ℕ) → n ≤ v → m ≡ get_or a MADE 0 → m ≤ v - n → [] ≡ get_or (value_lines a) v []
  row_absent v m h em k =
      row_made v [] h (sym (get_or-eq_default (rows_of a MADE) [] (rw (count_rows a MADE, ← em) k)))

  pub total_is : (m : ℕ) → m ≡ get_or a MADE 0 → n + m ≡ length (value_lines a)
  unfolding value_lines
  total_is m em = rw (length-append (rows_of a VALUE) (rows_of a MADE), count_rows a VALUE, count_rows a MADE, ← en, ← em)

-- ---- shapes

abbrev shapes : ℕ → ℕ → List Shape
shapes x y = Boolˢ (eqb x 1) ∷ Long (x * 4294967296 + y) ∷ Text x ∷ Entity x y ∷ Set ∷ Record ∷ []

-- a row of tag t, and items x and y
module _ (r : List ℕ) (t x y : ℕ) (et : t ≡ tag r) (ex : x ≡ get_or r 1 0) (ey : y ≡ get_or r 2 0) where
  shape : shape_of r ≡ get_or (shapes x y) (t - first_value) (Boolˢ false)
  unfolding shape_of
  shape = rw (et, ex, ey)

  at_place : (j : ℕ) → t - first_value ≡ j → shape_of r ≡ get_or (shapes x y) j (Boolˢ false)
  at_place j e = shape ∙ ap (λ (i : ℕ). get_or (shapes x y) i (Boolˢ false)) e

  pub shape_none : RECORD_VALUE < t → Boolˢ false ≡ shape_of r
  shape_none h =
      let n : RECORD_VALUE - first_value < t - first_value = omega arith in
      sym (shape ∙ get_or-eq_default (shapes x y) (Boolˢ false) n)

  pub shape_record : t ≡ RECORD_VALUE → Record ≡ shape_of r
  shape_record e = sym (at_place (RECORD_VALUE - first_value) (omega arith))

  pub shape_set : t ≡ SET_VALUE → Set ≡ shape_of r
  shape_set e = sym (at_place (SET_VALUE - first_value) (omega arith))

  pub shape_entity : t ≡ ENTITY_VALUE → Entity x y ≡ shape_of r
  shape_entity e = sym (at_place (ENTITY_VALUE - first_value) (omega arith))

  pub shape_text : t ≡ TEXT_VALUE → Text x ≡ shape_of r
  shape_text e = sym (at_place (TEXT_VALUE - first_value) (omega arith))

  pub shape_long : (w : ℕ) → t ≡ LONG_VALUE → w ≡ x * 4294967296 + y → Long w ≡ shape_of r
  shape_long w e q = ap Long q ∙ sym (at_place (LONG_VALUE - first_value) (omega arith))

  pub shape_bool : t ≤ RECORD_VALUE → (t ≡ RECORD_VALUE → ⊥) → (t ≡ SET_VALUE → ⊥) → (t ≡ ENTITY_VALUE → ⊥) → (t ≡ TEXT_VALUE → ⊥) → (t ≡ LONG_VALUE → ⊥) → Boolˢ (eqb x 1) ≡ shape_of r
  shape_bool h a b c d e = sym (at_place 0 (omega arith))

-- a value's row is its shape, with its items
pub shape_row_law : (r : List ℕ) → value_row r ≡ shape_row (shape_of r) (items r)
unfolding shape_of
shape_row_law r = go (tag r - first_value)
  where
    go : (j : ℕ) → get_or (shape_row (Boolˢ (eqb (at r 0) 1)) (items r) ∷ shape_row (Long (at r 0 * 4294967296 + at r 1)) (items r) ∷ shape_row (Text (at r 0)) (items r)
        ∷ shape_row (Entity (at r 0) (at r 1)) (items r) ∷ shape_row Set (items r) ∷ shape_row Record (items r) ∷ []) j (shape_row (Boolˢ false) (items r))
        ≡ shape_row (get_or (shapes (at r 0) (at r 1)) j (Boolˢ false)) (items r)
    go zero = refl
    go (suc zero) = refl
    go (suc (suc zero)) = refl
    go (suc (suc (suc zero))) = refl
    go (suc (suc (suc (suc zero)))) = refl
    go (suc (suc (suc (suc (suc zero))))) = refl
    go (suc (suc (suc (suc (suc (suc j)))))) = refl

-- ---- items
