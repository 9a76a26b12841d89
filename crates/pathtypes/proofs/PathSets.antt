-- The record types of a type and of what a record type declares, gathered in a set.
use mathlib.Core.Path.{◌≡◌, refl, sym, ap, ◌∙◌}
use mathlib.Core.Bool.{Bool, true, false, not, ◌&&◌}
use mathlib.Core.List.{List, []}
use mathlib.Core.Logic.{◌⊎◌, inl, inr}
use mathlib.Core.Option.{Option, none, some}
use Prim.Native.Nat.{ℕ, ◌+◌, ◌≤◌, ◌<◌}
use native.Mathlib.Omega.{arith}
use native.Mathlib.Decide.{dec_lt}
use Rattle.cedar.proofs.Tools.{no_true, both, and_both}
use borrow.Author.Tests.{not-true, not-false}
use lib.ListN.{length, get_or, drop, drop_of_length-le, get_or-eq_default}
use Rattle.cedar.specs.Value.{on_some}
use Rattle.sheet.specs.Forms.{tag, TYPE}
use Rattle.sheet.specs.State.{TypeRow, bool, long, string, entity, set', record', type_row}
use Rattle.sheet.specs.Typing.{on_entity, on_record, all_in}
use Rattle.words.specs.Bits.{added}
use Rattle.fits.specs.Fit.{kinds_in}
use Rattle.std.proofs.lemmas.List.{drop_more}
use Rattle.table.specs.Layout.{rows_of}
use Rattle.table.proofs.Rows.{count_rows}
use Rattle.forms.specs.Tags.{ENTITY_TYPE}
use Rattle.typesets.specs.Sets.{TYPES, Gathered}
use Rattle.typesets.proofs.Members.{gathered_as, nothing_asked, never_passes, one_asked, Turned, turn_start, turn_done, turn_off, turn_on}
use Rattle.typerows.specs.Types.{always, kinds_at, record_at, attribute_at, attribute_type_at, of_record, of_kind, each_at}
use Rattle.typerows.proofs.KindWalks.{each_kinds, each_record}
use Rattle.pathtypes.specs.Paths.{of_type, of_row, of_each, declared_each, of_declared}

-- ---- record types

module _ (a : List ℕ) (y : ℕ) where
  -- a type that is not there is no record
  pub row_out : get_or a TYPE 0 ≤ y → get_or (rows_of a TYPE) y [] ≡ []
  row_out h = get_or-eq_default (rows_of a TYPE) [] {n = y} (omega (arith, count_rows a TYPE))

  record_out : get_or a TYPE 0 ≤ y → record_at a y ≡ none
  unfolding record_at
  record_out h = rw (row_out h)

  record_own : (record_at a y ≡ none) ⊎ (record_at a y ≡ some y)
  unfolding record_at
  record_own = own (type_row (get_or (rows_of a TYPE) y []))
    where
      own : (T : TypeRow) → (on_record none T (λ ds. some y) ≡ none) ⊎ (on_record none T (λ ds. some y) ≡ some y)
      own bool = inl refl
      own long = inl refl
      own string = inl refl
      own (entity k ks) = inl refl
      own (set' t) = inl refl
      own (record' ds) = inr refl

  pub record_some : of_record a always y ≡ true → record_at a y ≡ some y
  unfolding of_record
  record_some e = go record_own
    where
      go : (record_at a y ≡ none) ⊎ (record_at a y ≡ some y) → record_at a y ≡ some y
      go (inl h) = no_true (sym (ap (λ (o : Option ℕ). on_some false o always) h) ∙ e)
      go (inr h) = h

  pub record_there : of_record a always y ≡ true → y < get_or a TYPE 0
  unfolding of_record
  record_there e = go (dec_lt y (get_or a TYPE 0))
    where
      go : Dec (y < get_or a TYPE 0) → y < get_or a TYPE 0
      go (yes l) = l
      go (no l) = no_true (sym (ap (λ (o : Option ℕ). on_some false o always) (record_out (omega (arith, l)))) ∙ e)

  pub any_record : (f : ℕ → Bool) → of_record a f y ≡ true → of_record a always y ≡ true
  unfolding of_record
  any_record f e = go (record_at a y) e
    where
      go : (o : Option ℕ) → on_some false o f ≡ true → on_some false o always ≡ true
      go none e = e
      go (some x) e = refl

  -- nothing that is asked of a type that is not there passes
  pub each_there : (f : ℕ → Bool) → each_at a y f ≡ true → y < get_or a TYPE 0
  unfolding each_at of_record kinds_at
  each_there f e = go (dec_lt y (get_or a TYPE 0))
    where
      go : Dec (y < get_or a TYPE 0) → y < get_or a TYPE 0
      go (yes l) = l
      go (no l) =
          let h : get_or a TYPE 0 ≤ y = omega (arith, l) in
          let k : kinds_at a y ≡ none = ap (λ (r : List ℕ). on_entity none (type_row r) some) (row_out h) in
          no_true (sym (rw (k, record_out h)) ∙ e)

  module _ (w : List ℕ) (b : Bool) (eb : b ≡ of_record a always y) where
    pub record_not : not b ≡ true → Gathered w w (of_type a y) false
    record_not h = never_passes w w (of_type a y) (λ f e. no_true (sym (not-true b h) ∙ eb ∙ any_record f e))

    pub record_joins : (v : List ℕ) → not b ≡ false → get_or a TYPE 0 ≤ TYPES → length w ≡ 4 → v ≡ added w y → Gathered w v (of_type a y) true
    unfolding of_record
    record_joins v h n l ev =
        let t : of_record a always y ≡ true = sym eb ∙ not-false b h in
        let e : record_at a y ≡ some y = record_some t in
        one_asked w v (of_type a y) y ev (omega (arith, record_there t))
        (λ f q. sym (ap (λ (o : Option ℕ). on_some false o f) e) ∙ q)
        (λ f q. ap (λ (o : Option ℕ). on_some false o f) e ∙ q)

-- ---- the kinds of a row

-- what is left of row r's kinds l, from kind i on
pub record Kinded (a w r l v : List ℕ) (i : ℕ) : Type 0 where
  pub turned : Turned w (of_row a r) v (λ f. all_in (of_kind a f) (drop i l) ≡ true)

module _ (a w r l : List ℕ) where
  pub kinded_start : l ≡ kinds_in r → Kinded a w r l w 0
  kinded_start el = record { turned = turn_start w (of_row a r) (λ f. all_in (of_kind a f) l ≡ true) (λ f e. ap (all_in (of_kind a f)) el ∙ e) (λ f e. ap (all_in (of_kind a f)) (sym el) ∙ e) }

  module _ (v : List ℕ) (i : ℕ) (k : Kinded a w r l v i) where
    pub kinded_end : length l ≤ i → Gathered w v (of_row a r) true
    kinded_end h = turn_done w v (of_row a r) (λ f. all_in (of_kind a f) (drop i l) ≡ true) k.turned (λ f. ap (all_in (of_kind a f)) (drop_of_length-le l h))

    module _ (z : ℕ) (u : List ℕ) (b : Bool) (h : i < length l) (ez : z ≡ attribute_type_at a (get_or l i 0)) (d : Gathered v u (of_type a z) b) where
      kind_step : (f : ℕ → Bool) → all_in (of_kind a f) (drop i l) ≡ (of_record a f z && all_in (of_kind a f) (drop (i + 1) l))
      unfolding of_kind
      kind_step f = rw (drop_more l i 0 h, ← ez)

      first_kind : (f : ℕ → Bool) → all_in (of_kind a f) (drop i l) ≡ true → of_record a f z ≡ true
      first_kind f e = and_both (of_record a f z) (all_in (of_kind a f) (drop (i + 1) l)) (sym (kind_step f) ∙ e) (λ p q. p)

      pub kinded_off : b ≡ false → Gathered w u (of_row a r) false
      kinded_off e = turn_off w v (of_row a r) (λ f. all_in (of_kind a f) (drop i l) ≡ true) k.turned u (of_type a z) b d e first_kind

      pub kinded_on : b ≡ true → Kinded a w r l u (i + 1)
      kinded_on e = record {
        turned = turn_on w v (of_row a r) (λ f. all_in (of_kind a f) (drop i l) ≡ true) k.turned u (of_type a z) b d (λ f. all_in (of_kind a f) (drop (i + 1) l) ≡ true) e first_kind
            (λ f q. and_both (of_record a f z) (all_in (of_kind a f) (drop (i + 1) l)) (sym (kind_step f) ∙ q) (λ x y. y))
            (λ f p q. kind_step f ∙ both p q);
      }

-- ---- a type

module _ (a w v q : List ℕ) (y k : ℕ) (b : Bool) (eq : q ≡ get_or (rows_of a TYPE) y []) (ek : k ≡ tag q) where
  pub type_kinds : k ≡ ENTITY_TYPE → Gathered w v (of_row a q) b → Gathered w v (of_each a y) b
  type_kinds h = gathered_as (of_row a q) (of_each a y) (λ f e. each_kinds a q y k eq ek f h ∙ e) (λ f e. sym (each_kinds a q y k eq ek f h) ∙ e)

  pub type_record : (k ≡ ENTITY_TYPE → ⊥) → Gathered w v (of_type a y) b → Gathered w v (of_each a y) b
  type_record h = gathered_as (of_type a y) (of_each a y) (λ f e. each_record a q y k eq ek f h ∙ e) (λ f e. sym (each_record a q y k eq ek f h) ∙ e)

-- ---- what a record type declares

module _ (a w : List ℕ) (y t : ℕ) where
  pub declared_none : none ≡ attribute_at a y t → Gathered w w (of_declared a t y) true
  declared_none e = nothing_asked w (of_declared a t y) (λ f. ap (λ (o : Option ℕ). on_some true o (λ z. each_at a z f)) (sym e))

  module _ (z n : ℕ) (e : some z ≡ attribute_at a y t) where
    declared_is : (f : ℕ → Bool) → declared_each a t f y ≡ each_at a z f
    declared_is f = ap (λ (o : Option ℕ). on_some true o (λ z. each_at a z f)) (sym e)

    pub declared_out : n ≡ get_or a TYPE 0 → n ≤ z → Gathered w w (of_declared a t y) false
    declared_out en l = never_passes w w (of_declared a t y) (λ f e. let m = each_there a z f (sym (declared_is f) ∙ e) in absurd (omega (arith, m)))

    pub declared_in_law : (v : List ℕ) (b : Bool) → Gathered w v (of_each a z) b → Gathered w v (of_declared a t y) b
    declared_in_law v b = gathered_as (of_each a z) (of_declared a t y) (λ f e. declared_is f ∙ e) (λ f e. sym (declared_is f) ∙ e)
