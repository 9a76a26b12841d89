-- The one record type of a type; steps that leave a set as it is.
use mathlib.Core.Path.{◌≡◌, refl, sym, ap, ◌∙◌}
use mathlib.Core.Bool.{Bool, true, false, not, ◌&&◌}
use mathlib.Core.List.{List, []}
use mathlib.Core.Option.{Option, some}
use Prim.Native.Nat.{ℕ, max, ◌+◌, ◌-◌, ◌≤◌, ◌<◌}
use native.Mathlib.Omega.{arith}
use native.Mathlib.Decide.{dec_lt, ℕ_discrete}
use borrow.Author.Tests.{not-false}
use lib.ListN.{length, get_or, drop_of_length-le}
use Rattle.cedar.proofs.Tools.{no_true, both, and_both}
use Rattle.cedar.specs.Value.{on_some}
use Rattle.sheet.specs.Forms.{tag, TYPE}
use Rattle.sheet.specs.Typing.{all_in}
use Rattle.words.specs.Bits.{member}
use Rattle.forms.specs.Tags.{ENTITY_TYPE, RECORD_TYPE}
use Rattle.table.specs.Layout.{rows_of}
use Rattle.fits.specs.Fit.{kinds_in}
use Rattle.typesets.specs.Sets.{Asked}
use Rattle.typerows.specs.Types.{always, record_at, attribute_type_at, of_record, of_kind}
use Rattle.typerows.proofs.KindWalks.{each_kinds, each_record}
use Rattle.typerows.proofs.Typings.{record_is, record_not}
use Rattle.pathtypes.specs.Paths.{Skipped, PlaceOf, Placed, of_row, of_each}
use Rattle.pathtypes.specs.declared.Place as P
use Rattle.pathtypes.proofs.PathSets.{row_out, record_some, any_record}

-- ---- the sorts of an answer

abbrev sort_of : P.Place → ℕ
sort_of (P.TheVariants.Alone y) = 0
sort_of P.TheVariants.Group = 1
sort_of P.TheVariants.Nowhere = 2

abbrev one_of : P.Place → ℕ
one_of (P.TheVariants.Alone y) = y
one_of P.TheVariants.Group = 0
one_of P.TheVariants.Nowhere = 0

-- more kinds than one: nothing is said
pub place_group : (q : Asked) → PlaceOf q P.TheVariants.Group
place_group q = record {
  alone = λ z e. let d : ◌≡◌ {A = ℕ} 1 0 = ap sort_of e in absurd (omega arith);
  nowhere = λ e. let d : ◌≡◌ {A = ℕ} 1 2 = ap sort_of e in absurd (omega arith);
}

one_place : (q : Asked) (y : ℕ) → ((f : ℕ → Bool) → q f → f y ≡ true) → ((f : ℕ → Bool) → f y ≡ true → q f) → PlaceOf q (P.TheVariants.Alone y)
one_place q y to back = record {
  alone = λ z e f. let d : y ≡ z = ap one_of e in ((λ u. ap f (sym d) ∙ to f u), (λ u. back f (ap f d ∙ u)));
  nowhere = λ e. let d : ◌≡◌ {A = ℕ} 0 2 = ap sort_of e in absurd (omega arith);
}

no_place : (q : Asked) → ((f : ℕ → Bool) → q f → ⊥) → PlaceOf q P.TheVariants.Nowhere
no_place q h = record {
  alone = λ z e. let d : ◌≡◌ {A = ℕ} 2 0 = ap sort_of e in absurd (omega arith);
  nowhere = λ e. h;
}

place_as : (q p : Asked) {x : P.Place} → ((f : ℕ → Bool) → q f → p f) → ((f : ℕ → Bool) → p f → q f) → PlaceOf q x → PlaceOf p x
place_as q p to back h = record {
  alone = λ z e f. let (u, v) = h.alone z e f in ((λ w. u (back f w)), (λ w. to f (v w)));
  nowhere = λ e f w. h.nowhere e f (back f w);
}

-- a record type's test
module _ (a : List ℕ) (y : ℕ) (f : ℕ → Bool) where
  own_test : record_at a y ≡ some y → of_record a f y ≡ f y
  unfolding of_record
  own_test e = ap (λ (o : Option ℕ). on_some false o f) e

-- ---- `kinds_place`

module _ (a r : List ℕ) (k y : ℕ) (b : Bool) (l : length r ≤ 2) (ek : k ≡ get_or r 1 0) (ey : y ≡ attribute_type_at a k) (eb : b ≡ of_record a always y) where
  one_kind_law : (f : ℕ → Bool) → all_in (of_kind a f) (kinds_in r) ≡ (of_record a f y && true)
  unfolding of_kind
  one_kind_law f = rw (drop_of_length-le r l, ← ek, ← ey)

  first : (f : ℕ → Bool) → of_row a r f → of_record a f y ≡ true
  first f e = and_both (of_record a f y) true (sym (one_kind_law f) ∙ e) (λ p q. p)

  pub place_alone : b ≡ true → PlaceOf (of_row a r) (P.TheVariants.Alone y)
  place_alone h =
      let e : record_at a y ≡ some y = record_some a y (sym eb ∙ h) in
      one_place (of_row a r) y (λ f u. sym (own_test a y f e) ∙ first f u) (λ f u. one_kind_law f ∙ both (own_test a y f e ∙ u) refl)

  pub place_nowhere : b ≡ false → PlaceOf (of_row a r) P.TheVariants.Nowhere
  place_nowhere h = no_place (of_row a r) (λ f u. no_true (sym h ∙ eb ∙ any_record a y f (first f u)))

-- ---- `place_of`

module _ (a q : List ℕ) (y k : ℕ) (eq : q ≡ get_or (rows_of a TYPE) y []) (ek : k ≡ tag q) where
  entity_there : k ≡ ENTITY_TYPE → y < get_or a TYPE 0
  entity_there h = go (dec_lt y (get_or a TYPE 0))
    where
      go : Dec (y < get_or a TYPE 0) → y < get_or a TYPE 0
      go (yes l) = l
      go (no l) = let e : tag [] ≡ ENTITY_TYPE = ap tag (sym (eq ∙ row_out a y (omega (arith, l)))) ∙ sym ek ∙ h in absurd (omega (arith, e))

  pub placed_record : k ≡ RECORD_TYPE → Placed a y (P.TheVariants.Alone y)
  placed_record h =
      let n : k ≡ ENTITY_TYPE → ⊥ = λ e. absurd (omega arith) in
      let e : record_at a y ≡ some y = sym (record_is a q y k eq ek h) in
      record {
        place = one_place (of_each a y) y (λ f u. sym (own_test a y f e) ∙ sym (each_record a q y k eq ek f n) ∙ u) (λ f u. each_record a q y k eq ek f n ∙ own_test a y f e ∙ u);
        there = λ g. let d : ◌≡◌ {A = ℕ} 0 1 = ap sort_of g in absurd (omega arith);
      }

  pub placed_kinds : (p : P.Place) → k ≡ ENTITY_TYPE → PlaceOf (of_row a q) p → Placed a y p
  placed_kinds p h w = record {
    place = place_as (of_row a q) (of_each a y) (λ f u. each_kinds a q y k eq ek f h ∙ u) (λ f u. sym (each_kinds a q y k eq ek f h) ∙ u) w;
    there = λ g. entity_there h;
  }

  pub placed_nowhere : (k ≡ RECORD_TYPE → ⊥) → (k ≡ ENTITY_TYPE → ⊥) → Placed a y P.TheVariants.Nowhere
  unfolding of_record
  placed_nowhere h n = record {
    place = no_place (of_each a y) (λ f u. no_true (ap (λ (o : Option ℕ). on_some false o f) (record_not a q y k eq ek h) ∙ sym (each_record a q y k eq ek f n) ∙ u));
    there = λ g. let d : ◌≡◌ {A = ℕ} 2 1 = ap sort_of g in absurd (omega arith);
  }

-- ---- `skip`

module _ (r texts : List ℕ) (s : ℕ) where
  pub skip_end : (i n : ℕ) → Skipped r texts s i → length r ≤ i → n ≡ max s (length r) → Skipped r texts s n
  skip_end i n w h e = record { low = omega arith; each = λ k l m. w.each k l (omega arith) }

  pub skip_start : Skipped r texts s s
  skip_start = record { low = omega arith; each = λ k l h. absurd (omega arith) }

  pub skip_on : (i x : ℕ) (b : Bool) → Skipped r texts s i → i < length r → x ≡ get_or r (i - 1) 0 → b ≡ member texts x → not b ≡ false → Skipped r texts s (i + 1)
  skip_on i x b w l ex eb h = record {
    low = let p = w.low in omega (arith, p);
    each = λ k p q. go k (ℕ_discrete k i) p q;
  }
    where
      go : (k : ℕ) → Dec (k ≡ i) → s ≤ k → k < i + 1 → (k < length r) × (member texts (get_or r (k - 1) 0) ≡ true)
      go k (yes e) p q = (omega (arith, e), ap (λ (j : ℕ). member texts (get_or r (j - 1) 0)) e ∙ ap (member texts) (sym ex) ∙ sym eb ∙ not-false b h)
      go k (no e) p q = w.each k p (omega (arith, e))
