-- A value's row by what the code found it to be. Assumes nothing.
use mathlib.Core.Path.{◌≡◌, refl, sym, ap, ◌∙◌}
use mathlib.Core.Bool.{Bool}
use mathlib.Core.List.{List, [], ◌∷◌}
use Prim.Native.Nat.{ℕ, zero, suc}
use lib.ListN.{get_or}
use lib.IntN.{ℤ}
use types.Run.{OneOf, miss}
use denote.Enum.Declared.{tag_of}
use Rattle.value.specs.contracts.Shape.{the_type}
use Rattle.cedar.specs.Rows.{Entries}
use Rattle.cedar.specs.Numbered.{row_at, r_bool, r_long, r_text, r_ent, r_set, r_rec}
use Rattle.sheet.specs.Forms.{items}
use Rattle.sheet.specs.State.{value_row}
use Rattle.sheet.specs.Content.{rows_in}
use Rattle.value.specs.Lines.{value_lines}
use Rattle.value.specs.Shapes.{shape_of, shape_row}
use Rattle.value.specs.declared.Shape.{Shape}
use Rattle.value.specs.declared.Shape.TheVariants.{Bool as Boolˢ, Long, Text, Entity, Set, Record}
use Rattle.value.proofs.Shaped.{shape_row_law}
use Rattle.lookup.specs.Lookups.{values, value_in}

pub row_in : (rows : List (List ℕ)) (v : ℕ) → row_at (rows_in rows) v ≡ value_row (get_or rows v [])
row_in [] v = refl
row_in (r ∷ rows) zero = refl
row_in (r ∷ rows) (suc v) = row_in rows v

-- the value of a number whose row was read, by its shape
pub value_shape : (a : List ℕ) (v : ℕ) (q : List ℕ) (s : Shape) → q ≡ get_or (value_lines a) v [] → s ≡ shape_of q → value_in a v ≡ shape_row s (items q)
unfolding value_in values
value_shape a v q s eq es = row_in (value_lines a) v ∙ ap value_row (sym eq) ∙ shape_row_law q ∙ ap (λ (x : Shape). shape_row x (items q)) (sym es)

-- a shape that is another one
module _ {A : Type 0} (d : A) (l : List ℕ) where
  pub other_bool : (s : Shape) (f : Bool → A) → OneOf (1 ∷ 2 ∷ 3 ∷ 4 ∷ 5 ∷ []) (tag_of the_type s) → r_bool d (shape_row s l) f ≡ d
  other_bool (Boolˢ b) f h = absurd (miss (1 ∷ 2 ∷ 3 ∷ 4 ∷ 5 ∷ []) 0 tt h)
  other_bool (Long w) f h = refl
  other_bool (Text t) f h = refl
  other_bool (Entity k t) f h = refl
  other_bool Set f h = refl
  other_bool Record f h = refl

  pub other_long : (s : Shape) (f : ℤ → A) → OneOf (0 ∷ 2 ∷ 3 ∷ 4 ∷ 5 ∷ []) (tag_of the_type s) → r_long d (shape_row s l) f ≡ d
  other_long (Boolˢ b) f h = refl
  other_long (Long w) f h = absurd (miss (0 ∷ 2 ∷ 3 ∷ 4 ∷ 5 ∷ []) 1 tt h)
  other_long (Text t) f h = refl
  other_long (Entity k t) f h = refl
  other_long Set f h = refl
  other_long Record f h = refl

  pub other_text : (s : Shape) (f : ℕ → A) → OneOf (0 ∷ 1 ∷ 3 ∷ 4 ∷ 5 ∷ []) (tag_of the_type s) → r_text d (shape_row s l) f ≡ d
  other_text (Boolˢ b) f h = refl
  other_text (Long w) f h = refl
  other_text (Text t) f h = absurd (miss (0 ∷ 1 ∷ 3 ∷ 4 ∷ 5 ∷ []) 2 tt h)
  other_text (Entity k t) f h = refl
  other_text Set f h = refl
  other_text Record f h = refl

  pub other_entity : (s : Shape) (f : ℕ → ℕ → A) → OneOf (0 ∷ 1 ∷ 2 ∷ 4 ∷ 5 ∷ []) (tag_of the_type s) → r_ent d (shape_row s l) f ≡ d
  other_entity (Boolˢ b) f h = refl
  other_entity (Long w) f h = refl
  other_entity (Text t) f h = refl
  other_entity (Entity k t) f h = absurd (miss (0 ∷ 1 ∷ 2 ∷ 4 ∷ 5 ∷ []) 3 tt h)
  other_entity Set f h = refl
  other_entity Record f h = refl

  pub other_set : (s : Shape) (f : List ℕ → A) → OneOf (0 ∷ 1 ∷ 2 ∷ 3 ∷ 5 ∷ []) (tag_of the_type s) → r_set d (shape_row s l) f ≡ d
  other_set (Boolˢ b) f h = refl
  other_set (Long w) f h = refl
  other_set (Text t) f h = refl
  other_set (Entity k t) f h = refl
  other_set Set f h = absurd (miss (0 ∷ 1 ∷ 2 ∷ 3 ∷ 5 ∷ []) 4 tt h)
  other_set Record f h = refl

  pub other_record : (s : Shape) (f : Entries → A) → OneOf (0 ∷ 1 ∷ 2 ∷ 3 ∷ 4 ∷ []) (tag_of the_type s) → r_rec d (shape_row s l) f ≡ d
  other_record (Boolˢ b) f h = refl
  other_record (Long w) f h = refl
  other_record (Text t) f h = refl
  other_record (Entity k t) f h = refl
  other_record Set f h = refl
  other_record Record f h = absurd (miss (0 ∷ 1 ∷ 2 ∷ 3 ∷ 4 ∷ []) 5 tt h)
