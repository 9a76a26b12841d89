-- The types that words hold, row by row: each is read over the types before it, whatever the words are.
use mathlib.Core.Path.{◌≡◌, refl, sym, ap, ◌∙◌}
use mathlib.Core.Bool.{Bool, true, false, cond, ◌&&◌}
use mathlib.Core.List.{List, [], ◌∷◌, ◌++◌, append-nil, append_assoc}
use mathlib.Core.Option.{Option, none, some}
use Prim.Native.Nat.{ℕ, zero, suc, ◌+◌, ◌-◌, ◌≤◌, ◌<◌}
use native.Mathlib.Omega.{arith}
use native.Mathlib.Decide.{ℕ_discrete, dec_lt}
use borrow.Author.Tests.{eq-eqb, ne_eqb, lt-ltb, le-ltb}
use lib.Dec.{eqb, ltb}
use lib.ListN.{length, get_or, take, length-append, get_or-eq_default}
use lib.Seq.{get_or-take, take-append_seam}
use Rattle.cedar.specs.Value.{on_some}
use Rattle.cedar.specs.Types.{Ty, tbool, each_kind, declared, pick_ty, Schema}
use Rattle.cedar.specs.TypeRules.{on_kinds, on_targets, ordinary, undeclared, false_if, has_rule}
use Rattle.cedar.specs.Numbered.{pick_n}
use Rattle.forms.specs.Tags.{ENTITY_TYPE, SET_TYPE}
use Rattle.sheet.specs.Forms.{items, tag, first_type, TYPE}
use Rattle.sheet.specs.State.{Declared, TypeRow, bool, long, string, entity, set', record', declareds, type_row}
use Rattle.sheet.specs.Typing.{on_entity, on_record, declared_in}
use Rattle.sheet.specs.Content.{attrs_over, ty_over, tys_from, types, attrs_in}
use Rattle.table.specs.Layout.{rows_of, held, lines_held}
use Rattle.fits.specs.Fit.{declared_by, kinds_in}
use Rattle.fits.proofs.Sorts.{type_table}
use Rattle.fits.proofs.KindLaws.{items_two}
use Rattle.typerows.specs.Types.{record_at, attribute_at}
use Rattle.rules.specs.Rules.{schema_at, ty_at, type_line, target_row, lacking, record_rule}

-- ---- each type over those before it

-- the types of further rows
grown : List Ty → List (List ℕ) → List Ty
grown ts [] = []
grown ts (r ∷ rs) = ty_over ts (type_row r) ∷ grown (ts ++ (ty_over ts (type_row r) ∷ [])) rs

from_grown : (ts : List Ty) (rs : List (List ℕ)) → tys_from ts rs ≡ ts ++ grown ts rs
unfolding grown
from_grown ts [] = sym (append-nil ts)
from_grown ts (r ∷ rs) = from_grown (ts ++ (ty_over ts (type_row r) ∷ [])) rs ∙ append_assoc ts (ty_over ts (type_row r) ∷ []) (grown (ts ++ (ty_over ts (type_row r) ∷ [])) rs)

at_seam : (ts us : List Ty) (T : Ty) → get_or (ts ++ (T ∷ us)) (length ts) tbool ≡ T
at_seam [] us T = refl
at_seam (x ∷ ts) us T = at_seam ts us T

read_from : (ts : List Ty) (rs : List (List ℕ)) (j y : ℕ) → y ≡ length ts + j → get_or (tys_from ts rs) y tbool ≡ ty_over (take y (tys_from ts rs)) (type_row (get_or rs j []))
unfolding grown
read_from ts [] j y e = get_or-eq_default ts tbool (omega arith)
read_from ts (r ∷ rs) zero y e =
    let q : tys_from ts (r ∷ rs) ≡ ts ++ grown ts (r ∷ rs) = from_grown ts (r ∷ rs) in
    let z : y ≡ length ts = omega arith in
    rw (z, q, take-append_seam ts (grown ts (r ∷ rs))) (at_seam ts (grown (ts ++ (ty_over ts (type_row r) ∷ [])) rs) (ty_over ts (type_row r)))
read_from ts (r ∷ rs) (suc j) y e =
    let q : length (ts ++ (ty_over ts (type_row r) ∷ [])) ≡ length ts + 1 = length-append ts (ty_over ts (type_row r) ∷ []) in
    read_from (ts ++ (ty_over ts (type_row r) ∷ [])) rs j y (omega (arith, q))

past_take : (n : ℕ) (l : List Ty) (i : ℕ) → n ≤ i → get_or (take n l) i tbool ≡ tbool
past_take zero l i h = refl
past_take (suc n) [] i h = refl
past_take (suc n) (x ∷ l) zero h = absurd (omega arith)
past_take (suc n) (x ∷ l) (suc i) h = past_take n l i (omega arith)

module _ (a : List ℕ) where
  -- the types before type y
  unfoldable pub earlier : ℕ → List Ty
  earlier y = take y (tys_from [] (rows_of a TYPE))

  pub type_read : (y : ℕ) → ty_at a y ≡ ty_over (earlier y) (type_row (get_or (rows_of a TYPE) y []))
  unfolding ty_at types held lines_held earlier
  type_read y = read_from [] (rows_of a TYPE) y y (omega arith)

  pub earlier_in : (y e : ℕ) → e < y → get_or (earlier y) e tbool ≡ ty_at a e
  unfolding ty_at types held lines_held earlier
  earlier_in y e h = get_or-take y (tys_from [] (rows_of a TYPE)) e tbool h

  pub earlier_out : (y e : ℕ) → y ≤ e → get_or (earlier y) e tbool ≡ tbool
  unfolding earlier
  earlier_out y e h = past_take y (tys_from [] (rows_of a TYPE)) e h

-- ---- the kinds of a type, by its row

module _ {A : Type 0} (d : A) (f : List ℕ → A) where
  -- of an entity type's row, and of another
  row_kinds : (q : List ℕ) → tag q ≡ ENTITY_TYPE → on_entity d (type_row q) f ≡ f (kinds_in q)
  row_kinds q e = rw e (ap (λ (l : List ℕ). f (get_or q 1 0 ∷ l)) (items_two q))

  row_other : (q : List ℕ) → (tag q ≡ ENTITY_TYPE → ⊥) → on_entity d (type_row q) f ≡ d
  row_other q h = go (tag q - first_type) refl
    where
      go : (j : ℕ) → tag q - first_type ≡ j → on_entity d (get_or (type_table q) j bool) f ≡ d
      go zero e = refl
      go (suc zero) e = refl
      go (suc (suc zero)) e = refl
      go (suc (suc (suc zero))) e = absurd (h (omega (arith, e)))
      go (suc (suc (suc (suc zero)))) e = refl
      go (suc (suc (suc (suc (suc zero))))) e = refl
      go (suc (suc (suc (suc (suc (suc j)))))) e = refl

  kinds_over : (ts : List Ty) (T : TypeRow) → on_kinds d (ty_over ts T) f ≡ on_entity d T f
  kinds_over ts bool = refl
  kinds_over ts long = refl
  kinds_over ts string = refl
  kinds_over ts (entity k ks) = refl
  kinds_over ts (set' t) = refl
  kinds_over ts (record' ds) = refl

  kinds_read : (a : List ℕ) (y : ℕ) → on_kinds d (ty_at a y) f ≡ on_entity d (type_row (type_line a y)) f
  kinds_read a y = ap (λ (T : Ty). on_kinds d T f) (type_read a y) ∙ kinds_over (earlier a y) (type_row (type_line a y))

  pub kinds_of : (a : List ℕ) (y : ℕ) → tag (type_line a y) ≡ ENTITY_TYPE → on_kinds d (ty_at a y) f ≡ f (kinds_in (type_line a y))
  kinds_of a y e = kinds_read a y ∙ row_kinds (type_line a y) e

  pub kinds_none : (a : List ℕ) (y : ℕ) → (tag (type_line a y) ≡ ENTITY_TYPE → ⊥) → on_kinds d (ty_at a y) f ≡ d
  kinds_none a y h = kinds_read a y ∙ row_other (type_line a y) h

  -- ---- and of the elements of a set

  target_set : (ts : List Ty) (q : List ℕ) → tag q ≡ SET_TYPE → on_targets d (ty_over ts (type_row q)) f ≡ on_kinds d (get_or ts (get_or q 1 0) tbool) f
  target_set ts q e = rw e refl

  target_own : (ts : List Ty) (q : List ℕ) → (tag q ≡ SET_TYPE → ⊥) → on_targets d (ty_over ts (type_row q)) f ≡ on_entity d (type_row q) f
  target_own ts q h = go (tag q - first_type) refl
    where
      go : (j : ℕ) → tag q - first_type ≡ j → on_targets d (ty_over ts (get_or (type_table q) j bool)) f ≡ on_entity d (get_or (type_table q) j bool) f
      go zero e = refl
      go (suc zero) e = refl
      go (suc (suc zero)) e = refl
      go (suc (suc (suc zero))) e = refl
      go (suc (suc (suc (suc zero)))) e = absurd (h (omega (arith, e)))
      go (suc (suc (suc (suc (suc zero))))) e = refl
      go (suc (suc (suc (suc (suc (suc j)))))) e = refl

  module _ (a : List ℕ) (y : ℕ) where
    -- of elements of type e
    element_read : (e : ℕ) → on_kinds d (get_or (earlier a y) e tbool) f ≡ on_entity d (type_row (cond (ltb e y) (type_line a e) [])) f
    element_read e = go (dec_lt e y)
      where
        go : Dec (e < y) → on_kinds d (get_or (earlier a y) e tbool) f ≡ on_entity d (type_row (cond (ltb e y) (type_line a e) [])) f
        go (yes h) = rw (lt-ltb e y h, earlier_in a y e h) (kinds_read a e)
        go (no h) = rw (le-ltb e y (omega (arith, h)), earlier_out a y e (omega (arith, h))) refl

    target_read : on_targets d (ty_at a y) f ≡ on_entity d (type_row (target_row a y)) f
    unfolding target_row
    target_read = ap (λ (T : Ty). on_targets d T f) (type_read a y) ∙ go (ℕ_discrete (tag (type_line a y)) SET_TYPE)
      where
        go : Dec (tag (type_line a y) ≡ SET_TYPE) → on_targets d (ty_over (earlier a y) (type_row (type_line a y))) f ≡ on_entity d (type_row (target_row a y)) f
        go (yes e) = target_set (earlier a y) (type_line a y) e ∙ rw (eq-eqb (tag (type_line a y)) SET_TYPE e) (element_read (get_or (type_line a y) 1 0))
        go (no h) = rw (ne_eqb (tag (type_line a y)) SET_TYPE h) (target_own (earlier a y) (type_line a y) h)

    pub targets_of : tag (target_row a y) ≡ ENTITY_TYPE → on_targets d (ty_at a y) f ≡ f (kinds_in (target_row a y))
    targets_of e = target_read ∙ row_kinds (target_row a y) e

    pub targets_none : (tag (target_row a y) ≡ ENTITY_TYPE → ⊥) → on_targets d (ty_at a y) f ≡ d
    targets_none h = target_read ∙ row_other (target_row a y) h

-- ---- declared attributes

pick_over : (b : Bool) (T : Ty) (x : ℕ) (o : Option Ty) (p : Option ℕ) → undeclared o ≡ undeclared p → undeclared (pick_ty b T o) ≡ undeclared (pick_n b x p)
pick_over true T x o p e = refl
pick_over false T x o p e = e

declared_over : (ts : List Ty) (t : ℕ) (ds : List Declared) → undeclared (declared t (attrs_over ts ds)) ≡ undeclared (declared_in t ds)
declared_over ts t [] = refl
declared_over ts t (d ∷ ds) = pick_over (eqb t d.text) (get_or ts d.type tbool) d.type (declared t (attrs_over ts ds)) (declared_in t ds) (declared_over ts t ds)

-- over a type's row q, which is that of type y; G: what is undeclared, by a type's number
module _ (ts : List Ty) (t y : ℕ) (q : List ℕ) (G : ℕ → Bool) (e : undeclared (declared_in t (declareds (items q))) ≡ G y) where
  attrs_over_law : undeclared (declared t (attrs_in (ty_over ts (type_row q)))) ≡ on_some true (on_record none (type_row q) (λ ds. some y)) G
  attrs_over_law = go (tag q - first_type)
    where
      go : (j : ℕ) → undeclared (declared t (attrs_in (ty_over ts (get_or (type_table q) j bool)))) ≡ on_some true (on_record none (get_or (type_table q) j bool) (λ ds. some y)) G
      go zero = refl
      go (suc zero) = refl
      go (suc (suc zero)) = refl
      go (suc (suc (suc zero))) = refl
      go (suc (suc (suc (suc zero)))) = refl
      go (suc (suc (suc (suc (suc zero))))) = declared_over ts t (declareds (items q)) ∙ e
      go (suc (suc (suc (suc (suc (suc j)))))) = refl

  has_over : (S : Schema) → (tag q ≡ ENTITY_TYPE → ⊥) → has_rule S t (ty_over ts (type_row q)) ≡ on_some none (on_record none (type_row q) (λ ds. some y)) (λ z. false_if (G z))
  has_over S h = go (tag q - first_type) refl
    where
      go : (j : ℕ) → tag q - first_type ≡ j → has_rule S t (ty_over ts (get_or (type_table q) j bool)) ≡ on_some none (on_record none (get_or (type_table q) j bool) (λ ds. some y)) (λ z. false_if (G z))
      go zero i = refl
      go (suc zero) i = refl
      go (suc (suc zero)) i = refl
      go (suc (suc (suc zero))) i = absurd (h (omega (arith, i)))
      go (suc (suc (suc (suc zero)))) i = refl
      go (suc (suc (suc (suc (suc zero))))) i = ap false_if (declared_over ts t (declareds (items q)) ∙ e)
      go (suc (suc (suc (suc (suc (suc j)))))) i = refl

  has_group : (S : Schema) → tag q ≡ ENTITY_TYPE → has_rule S t (ty_over ts (type_row q)) ≡ false_if (each_kind (λ l. ordinary (S.shape l) && undeclared (declared t (S.shape l).attrs)) (kinds_in q))
  has_group S h = rw h (ap (λ (l : List ℕ). false_if (each_kind (λ k. ordinary (S.shape k) && undeclared (declared t (S.shape k).attrs)) (get_or q 1 0 ∷ l))) (items_two q))

module _ (a : List ℕ) (t y : ℕ) where
  pub attrs_read : undeclared (declared t (attrs_in (ty_at a y))) ≡ on_some true (record_at a y) (λ z. undeclared (attribute_at a z t))
  unfolding record_at attribute_at declared_by
  attrs_read = ap (λ (T : Ty). undeclared (declared t (attrs_in T))) (type_read a y) ∙ attrs_over_law (earlier a y) t y (type_line a y) (λ z. undeclared (attribute_at a z t)) refl

  pub has_read : tag (type_line a y) ≡ ENTITY_TYPE → has_rule (schema_at a) t (ty_at a y) ≡ false_if (each_kind (lacking a t) (kinds_in (type_line a y)))
  unfolding lacking attribute_at declared_by
  has_read h = ap (has_rule (schema_at a) t) (type_read a y) ∙ has_group (earlier a y) t y (type_line a y) (λ z. undeclared (attribute_at a z t)) refl (schema_at a) h

  pub has_other_read : (tag (type_line a y) ≡ ENTITY_TYPE → ⊥) → has_rule (schema_at a) t (ty_at a y) ≡ on_some none (record_at a y) (record_rule a t)
  unfolding record_at record_rule attribute_at declared_by
  has_other_read h = ap (has_rule (schema_at a) t) (type_read a y) ∙ has_over (earlier a y) t y (type_line a y) (λ z. undeclared (attribute_at a z t)) refl (schema_at a) h
