-- A test of each kind of an entity type: what is left of its row decides the whole. What each kind of a type, or a record type, is asked.
use mathlib.Core.Path.{◌≡◌, sym, ap, ◌∙◌}
use mathlib.Core.Bool.{Bool, true, false, ◌&&◌}
use mathlib.Core.List.{List, []}
use Prim.Native.Nat.{ℕ, ◌+◌, ◌≤◌, ◌<◌}
use native.Mathlib.Numerals.{add-one}
use lib.ListN.{length, get_or, drop, drop_of_length-le}
use lib.Seq.{drop-cons}
use Rattle.sheet.specs.Forms.{tag, TYPE}
use Rattle.sheet.specs.Typing.{all_in}
use Rattle.forms.specs.Tags.{ENTITY_TYPE}
use Rattle.table.specs.Layout.{rows_of}
use Rattle.fits.specs.Fit.{kinds_in}
use Rattle.typerows.proofs.Typings.{kinds_is, kinds_not}
use Rattle.typerows.specs.Types.{attribute_type_at, of_record, of_kind, each_at}

-- the kinds l of row q, from kind i on, decide whether each passes f
pub record Kinds (f : ℕ → Bool) (q l : List ℕ) (i : ℕ) : Type 0 where
  pub left : all_in f (kinds_in q) ≡ all_in f (drop i l)

pub kinds_start : (f : ℕ → Bool) (q l : List ℕ) → l ≡ kinds_in q → Kinds f q l 0
kinds_start f q l e = record { left = ap (all_in f) (sym e) }

module _ (f : ℕ → Bool) (q l : List ℕ) (i : ℕ) (w : Kinds f q l i) where
  pub kinds_done : length l ≤ i → true ≡ all_in f (kinds_in q)
  kinds_done h = sym (w.left ∙ ap (all_in f) (drop_of_length-le l h))

  module _ (b : Bool) (h : i < length l) (eb : b ≡ f (get_or l i 0)) where
    kinds_step : all_in f (drop i l) ≡ (b && all_in f (drop (i + 1) l))
    kinds_step = rw (add-one i, drop-cons l i 0 h, eb)

    pub kinds_off : b ≡ false → false ≡ all_in f (kinds_in q)
    kinds_off e = sym (w.left ∙ kinds_step ∙ rw e)

    pub kinds_on : b ≡ true → Kinds f q l (i + 1)
    kinds_on e = record { left = w.left ∙ kinds_step ∙ rw e }

-- ---- a test of a kind's attributes

module _ (a q l : List ℕ) (f : ℕ → Bool) where
  pub asked : (k z : ℕ) (b : Bool) → z ≡ attribute_type_at a k → b ≡ of_record a f z → b ≡ of_kind a f k
  unfolding of_kind
  asked k z b ez eb = rw (← ez) eb

  module _ (i : ℕ) (w : Kinds (of_kind a f) q l i) (h : i < length l) (z : ℕ) (b : Bool) (ez : z ≡ attribute_type_at a (get_or l i 0)) (eb : b ≡ of_record a f z) where
    kind_is : b ≡ of_kind a f (get_or l i 0)
    unfolding of_kind
    kind_is = rw (← ez) eb

    pub attributes_off : b ≡ false → false ≡ all_in (of_kind a f) (kinds_in q)
    attributes_off e = kinds_off (of_kind a f) q l i w b h kind_is e

    pub attributes_on : b ≡ true → Kinds (of_kind a f) q l (i + 1)
    attributes_on e = kinds_on (of_kind a f) q l i w b h kind_is e

-- ---- a test of each kind, or of a record type

module _ (a q : List ℕ) (y k : ℕ) (eq : q ≡ get_or (rows_of a TYPE) y []) (ek : k ≡ tag q) (f : ℕ → Bool) where
  pub each_kinds : k ≡ ENTITY_TYPE → each_at a y f ≡ all_in (of_kind a f) (kinds_in q)
  unfolding each_at
  each_kinds h = rw (kinds_is a q y k eq ek h)

  pub each_record : (k ≡ ENTITY_TYPE → ⊥) → each_at a y f ≡ of_record a f y
  unfolding each_at
  each_record h = rw (kinds_not a q y k eq ek h)
