-- Types, shapes, kinds and the request by their numbers: one law for each answer.
use mathlib.Core.Path.{◌≡◌, refl, sym, ap, ◌∙◌}
use mathlib.Core.Bool.{Bool, true, false}
use mathlib.Core.List.{List, [], ◌∷◌}
use mathlib.Core.Option.{none, some}
use Rattle.std.specs.Prelude.{Option, Some, None, unwrap_or}
use Rattle.std.specs.List.{list_any}
use Prim.Native.Nat.{ℕ, zero, suc, ◌+◌, ◌-◌, ◌≤◌, ◌<◌}
use native.Mathlib.Omega.{arith}
use borrow.Author.Tests.{eqb-true, eqb-false, le-ltb}
use lib.Dec.{eqb, ltb}
use lib.ListN.{length, get_or, drop}
use Rattle.cedar.specs.Value.{on_some}
use Rattle.cedar.specs.Numbered.{mem_n}
use Rattle.sheet.specs.Forms.{tag, first_type, KIND, TYPE, SHAPE}
use Rattle.forms.specs.Tags.{LONG_TYPE, ENTITY_TYPE, SET_TYPE, RECORD_TYPE, OF_ACTIONS}
use Rattle.sheet.specs.State.{Declared, TypeRow, bool, long, string, entity, set', record', declareds, type_row}
use Rattle.sheet.specs.Typing.{on_entity, on_set_of, on_record, none_declared}
use Rattle.table.specs.Layout.{rows_of}
use Rattle.fits.specs.Fit.{kinds_in, declared_by, found_in}
use Rattle.fits.proofs.KindLaws.{items_two, found_is}
use Rattle.fits.proofs.Sorts.{type_table}
use Rattle.typerows.specs.Types.{always, BOOL_SORT, ENTITY_SORT, SET_SORT, RECORD_SORT, sort_number, sort_at, kinds_at, element_at, record_at, attribute_at, bare_at, attribute_type_at, tag_type_at, above_at, is_above_at, action_at, of_record, target_at, request_at}

-- ---- the sort of a type's row

sort_table : (r : List ℕ) (j : ℕ) → j ≤ RECORD_SORT → sort_number (get_or (type_table r) j bool) ≡ j
sort_table r zero h = refl
sort_table r (suc zero) h = refl
sort_table r (suc (suc zero)) h = refl
sort_table r (suc (suc (suc zero))) h = refl
sort_table r (suc (suc (suc (suc zero)))) h = refl
sort_table r (suc (suc (suc (suc (suc zero))))) h = refl
sort_table r (suc (suc (suc (suc (suc (suc j)))))) h = absurd (omega arith)

sort_past : (r : List ℕ) (j : ℕ) → RECORD_SORT < j → sort_number (get_or (type_table r) j bool) ≡ BOOL_SORT
sort_past r zero h = refl
sort_past r (suc zero) h = absurd (omega arith)
sort_past r (suc (suc zero)) h = absurd (omega arith)
sort_past r (suc (suc (suc zero))) h = absurd (omega arith)
sort_past r (suc (suc (suc (suc zero)))) h = absurd (omega arith)
sort_past r (suc (suc (suc (suc (suc zero))))) h = absurd (omega arith)
sort_past r (suc (suc (suc (suc (suc (suc j)))))) h = refl

module _ (a q : List ℕ) (y k : ℕ) (eq : q ≡ get_or (rows_of a TYPE) y []) (ek : k ≡ tag q) where
  pub sort_low : k < LONG_TYPE → BOOL_SORT ≡ sort_at a y
  unfolding sort_at
  sort_low h = let e : tag q - first_type ≡ 0 = omega arith in rw (← eq, e)

  pub sort_high : RECORD_TYPE < k → BOOL_SORT ≡ sort_at a y
  unfolding sort_at
  sort_high h = rw (← eq) (sym (sort_past q (tag q - first_type) (omega arith)))

  pub sort_mid : LONG_TYPE ≤ k → k ≤ RECORD_TYPE → k - first_type ≡ sort_at a y
  unfolding sort_at
  sort_mid l h = rw (← eq) (ap (λ t. t - first_type) ek ∙ sym (sort_table q (tag q - first_type) (omega arith)))

-- a type's row of another sort
tag_sort : (q : List ℕ) (n : ℕ) → sort_number (type_row q) ≡ suc n → tag q ≡ LONG_TYPE + n
tag_sort q n h = go (tag q - first_type) refl h
  where
    go : (j : ℕ) → j ≡ tag q - first_type → sort_number (get_or (type_table q) j bool) ≡ suc n → tag q ≡ LONG_TYPE + n
    go zero e h = absurd (omega arith)
    go (suc zero) e h = omega arith
    go (suc (suc zero)) e h = omega arith
    go (suc (suc (suc zero))) e h = omega arith
    go (suc (suc (suc (suc zero)))) e h = omega arith
    go (suc (suc (suc (suc (suc zero))))) e h = omega arith
    go (suc (suc (suc (suc (suc (suc j)))))) e h = absurd (omega arith)

module _ {A : Type 0} (d : A) where
  not_entity : (T : TypeRow) (f : List ℕ → A) → (sort_number T ≡ ENTITY_SORT → ⊥) → on_entity d T f ≡ d
  not_entity bool f h = refl
  not_entity long f h = refl
  not_entity string f h = refl
  not_entity (entity k ks) f h = absurd (h refl)
  not_entity (set' t) f h = refl
  not_entity (record' ds) f h = refl

  not_set : (T : TypeRow) (f : ℕ → A) → (sort_number T ≡ SET_SORT → ⊥) → on_set_of d T f ≡ d
  not_set bool f h = refl
  not_set long f h = refl
  not_set string f h = refl
  not_set (entity k ks) f h = refl
  not_set (set' t) f h = absurd (h refl)
  not_set (record' ds) f h = refl

  not_record : (T : TypeRow) (f : List Declared → A) → (sort_number T ≡ RECORD_SORT → ⊥) → on_record d T f ≡ d
  not_record bool f h = refl
  not_record long f h = refl
  not_record string f h = refl
  not_record (entity k ks) f h = refl
  not_record (set' t) f h = refl
  not_record (record' ds) f h = absurd (h refl)

module _ (a q : List ℕ) (y k : ℕ) (eq : q ≡ get_or (rows_of a TYPE) y []) (ek : k ≡ tag q) where
  pub kinds_is : k ≡ ENTITY_TYPE → kinds_at a y ≡ some (kinds_in q)
  unfolding kinds_at
  kinds_is h = let e : tag q ≡ ENTITY_TYPE = sym ek ∙ h in rw (← eq, e, items_two q)

  pub kinds_not : (k ≡ ENTITY_TYPE → ⊥) → kinds_at a y ≡ none
  unfolding kinds_at
  kinds_not h = rw (← eq) (not_entity none (type_row q) some (λ s. h (ek ∙ tag_sort q (ENTITY_TYPE - LONG_TYPE) s)))

  pub element_is : (x : ℕ) → k ≡ SET_TYPE → x ≡ get_or q 1 0 → found_in (Some x) ≡ element_at a y
  unfolding element_at
  element_is x h ex = let e : tag q ≡ SET_TYPE = sym ek ∙ h in rw (← eq, e, ex)

  pub element_not : (k ≡ SET_TYPE → ⊥) → found_in None ≡ element_at a y
  unfolding element_at
  element_not h = let e : on_set_of none (type_row q) some ≡ none = not_set none (type_row q) some (λ s. h (ek ∙ tag_sort q (SET_TYPE - LONG_TYPE) s)) in rw (← eq, e)

  pub record_is : k ≡ RECORD_TYPE → found_in (Some y) ≡ record_at a y
  unfolding record_at
  record_is h = let e : tag q ≡ RECORD_TYPE = sym ek ∙ h in rw (← eq, e)

  pub record_not : (k ≡ RECORD_TYPE → ⊥) → found_in None ≡ record_at a y
  unfolding record_at
  record_not h = let e : on_record none (type_row q) (λ ds. some y) ≡ none = not_record none (type_row q) (λ ds. some y) (λ s. h (ek ∙ tag_sort q (RECORD_TYPE - LONG_TYPE) s)) in rw (← eq, e)

  pub record_test : eqb k RECORD_TYPE ≡ of_record a always y
  unfolding of_record
  record_test = go (eqb k RECORD_TYPE) refl
    where
      go : (t : Bool) → eqb k RECORD_TYPE ≡ t → t ≡ on_some false (record_at a y) always
      go true e = rw (← record_is (eqb-true k RECORD_TYPE e))
      go false e = rw (← record_not (eqb-false k RECORD_TYPE e))

-- ---- parts of a row

pub attribute_is : (a q : List ℕ) (y t : ℕ) (f : Option ℕ) → q ≡ get_or (rows_of a TYPE) y [] → found_in f ≡ declared_by q t → found_in f ≡ attribute_at a y t
unfolding attribute_at
attribute_is a q y t f eq ef = rw (← eq) ef

bare : (l : List ℕ) → ltb (length l) 4 ≡ none_declared (declareds (drop 1 l))
bare [] = refl
bare (x ∷ []) = refl
bare (x ∷ t ∷ []) = refl
bare (x ∷ t ∷ u ∷ []) = refl
bare (x ∷ t ∷ u ∷ v ∷ l) = le-ltb (length (x ∷ t ∷ u ∷ v ∷ l)) 4 (omega arith)

pub bare_is : (a q : List ℕ) (y : ℕ) → q ≡ get_or (rows_of a TYPE) y [] → ltb (length q) 4 ≡ bare_at a y
unfolding bare_at
bare_is a q y eq = rw (← eq) (bare q)

pub attribute_type_is : (a q : List ℕ) (k x : ℕ) → q ≡ get_or (rows_of a SHAPE) k [] → x ≡ get_or q 1 0 → x ≡ attribute_type_at a k
unfolding attribute_type_at
attribute_type_is a q k x eq ex = rw (← eq) ex

pub tag_type_is : (a q : List ℕ) (k x : ℕ) → q ≡ get_or (rows_of a SHAPE) k [] → x ≡ get_or q 2 0 → x ≡ tag_type_at a k
unfolding tag_type_at
tag_type_is a q k x eq ex = rw (← eq) ex

pub action_is : (a q : List ℕ) (k x : ℕ) → q ≡ get_or (rows_of a KIND) k [] → x ≡ get_or q 2 0 → eqb x OF_ACTIONS ≡ action_at a k
unfolding action_at
action_is a q k x eq ex = rw (← eq, ← ex)

pub request_at_is : (a q : List ℕ) (k x : ℕ) → q ≡ get_or (rows_of a k) 0 [] → x ≡ get_or q 1 0 → x ≡ request_at a k
unfolding request_at
request_at_is a q k x eq ex = rw (← eq) ex

-- ---- kinds above

pub above_is : (a l : List ℕ) (k d : ℕ) (b : Bool) → l ≡ above_at a k → b ≡ list_any (λ (x : ℕ). eqb x d) l → b ≡ is_above_at a k d
unfolding is_above_at
above_is a l k d b e q = q ∙ found_is d l ∙ ap (mem_n d) e

-- ---- targets

pub target_is : (a : List ℕ) (y s x : ℕ) (f : Option ℕ) → found_in f ≡ element_at a y → x ≡ unwrap_or f y → s ≡ sort_at a x → eqb s ENTITY_SORT ≡ target_at a y
unfolding target_at
target_is a y s x None ef ex es = rw (← ef, es, ex)
target_is a y s x (Some z) ef ex es = rw (← ef, es, ex)
