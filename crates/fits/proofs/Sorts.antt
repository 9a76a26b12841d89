-- The sorts of a value's row and of a type's, by their tags.
use mathlib.Core.Path.{◌≡◌, refl, sym, ap, ◌∙◌}
use mathlib.Core.Bool.{Bool, true, false}
use mathlib.Core.List.{List, [], ◌∷◌}
use Prim.Native.Nat.{ℕ, zero, suc, ◌+◌, ◌-◌, ◌*◌, ◌≤◌, ◌<◌}
use native.Mathlib.Omega.{arith}
use borrow.Author.Tests.{eqb-true, eqb-false}
use lib.Dec.{eqb}
use lib.ListN.{get_or, drop}
use Rattle.cedar.specs.Rows.{Entries, Row, rbool, rlong, rtext, rent, rset, rrec}
use Rattle.cedar.specs.Numbered.{r_bool, r_long, r_text, r_ent, r_set, r_rec, mem_n}
use Rattle.sheet.specs.Bytes.{long_at}
use Rattle.sheet.specs.Forms.{tag, items, at, first_type, first_value}
use Rattle.sheet.specs.State.{TypeRow, bool, long, string, entity, set', record', declareds, type_row, entries_of, value_row}
use Rattle.sheet.specs.Typing.{all_in, entries_fit}
use Rattle.forms.specs.Tags.{LONG_TYPE, STRING_TYPE, ENTITY_TYPE, SET_TYPE, RECORD_TYPE, LONG_VALUE, TEXT_VALUE, ENTITY_VALUE, SET_VALUE, RECORD_VALUE}
use Rattle.fits.proofs.KindLaws.{items_two}
use Rattle.fits.specs.Fit.{kinds_in, kind_in, has_in, complete_in, set_fits, record_fits, rows_fit, is_bool_row, Leaf}

-- ---- the number of a row's sort

abbrev pub sort : Row → ℕ
sort (rbool b) = 0
sort (rlong n) = 1
sort (rtext t) = 2
sort (rent k t) = 3
sort (rset l) = 4
sort (rrec e) = 5

module _ {A : Type 0} (d : A) where
  pub no_bool : (x : Row) (f : Bool → A) → (sort x ≡ 0 → ⊥) → r_bool d x f ≡ d
  no_bool (rbool b) f h = absurd (h refl)
  no_bool (rlong n) f h = refl
  no_bool (rtext t) f h = refl
  no_bool (rent k t) f h = refl
  no_bool (rset l) f h = refl
  no_bool (rrec e) f h = refl

  pub no_text : (x : Row) (f : ℕ → A) → (sort x ≡ 2 → ⊥) → r_text d x f ≡ d
  no_text (rbool b) f h = refl
  no_text (rlong n) f h = refl
  no_text (rtext t) f h = absurd (h refl)
  no_text (rent k t) f h = refl
  no_text (rset l) f h = refl
  no_text (rrec e) f h = refl

  pub no_entity : (x : Row) (f : ℕ → ℕ → A) → (sort x ≡ 3 → ⊥) → r_ent d x f ≡ d
  no_entity (rbool b) f h = refl
  no_entity (rlong n) f h = refl
  no_entity (rtext t) f h = refl
  no_entity (rent k t) f h = absurd (h refl)
  no_entity (rset l) f h = refl
  no_entity (rrec e) f h = refl

  pub no_set : (x : Row) (f : List ℕ → A) → (sort x ≡ 4 → ⊥) → r_set d x f ≡ d
  no_set (rbool b) f h = refl
  no_set (rlong n) f h = refl
  no_set (rtext t) f h = refl
  no_set (rent k t) f h = refl
  no_set (rset l) f h = absurd (h refl)
  no_set (rrec e) f h = refl

  pub no_record : (x : Row) (f : Entries → A) → (sort x ≡ 5 → ⊥) → r_rec d x f ≡ d
  no_record (rbool b) f h = refl
  no_record (rlong n) f h = refl
  no_record (rtext t) f h = refl
  no_record (rent k t) f h = refl
  no_record (rset l) f h = refl
  no_record (rrec e) f h = absurd (h refl)

no_long : (x : Row) → (sort x ≡ 1 → ⊥) → r_long false x (λ n. true) ≡ false
no_long (rbool b) h = refl
no_long (rlong n) h = absurd (h refl)
no_long (rtext t) h = refl
no_long (rent k t) h = refl
no_long (rset l) h = refl
no_long (rrec e) h = refl

-- rows by their place in the table of constructors
abbrev value_table : List ℕ → List Row
value_table r = rbool (eqb (at r 0) 1) ∷ rlong (long_at (at r 0 * 4294967296 + at r 1)) ∷ rtext (at r 0) ∷ rent (at r 0) (at r 1) ∷ rset (items r) ∷ rrec (entries_of (items r)) ∷ []

abbrev pub type_table : List ℕ → List TypeRow
type_table r = bool ∷ long ∷ string ∷ entity (at r 0) (drop 1 (items r)) ∷ set' (at r 0) ∷ record' (declareds (items r)) ∷ []

pub sort_tag : (r : List ℕ) (n : ℕ) → sort (value_row r) ≡ suc n → tag r ≡ LONG_VALUE + n
sort_tag r n h = go (tag r - first_value) refl h
  where
    go : (j : ℕ) → j ≡ tag r - first_value → sort (get_or (value_table r) j (rbool false)) ≡ suc n → tag r ≡ LONG_VALUE + n
    go zero e h = absurd (omega arith)
    go (suc zero) e h = omega arith
    go (suc (suc zero)) e h = omega arith
    go (suc (suc (suc zero))) e h = omega arith
    go (suc (suc (suc (suc zero)))) e h = omega arith
    go (suc (suc (suc (suc (suc zero))))) e h = omega arith
    go (suc (suc (suc (suc (suc (suc j)))))) e h = absurd (omega arith)

module _ (r : List ℕ) (k : ℕ) (ek : k ≡ tag r) where
  pub bool_low : k < LONG_VALUE → true ≡ is_bool_row r
  unfolding is_bool_row
  bool_low h = let e : tag r - first_value ≡ 0 = omega arith in rw e

  pub bool_high : RECORD_VALUE < k → true ≡ is_bool_row r
  unfolding is_bool_row
  bool_high h = go (tag r - first_value) refl
    where
      go : (j : ℕ) → j ≡ tag r - first_value → true ≡ r_bool false (get_or (value_table r) j (rbool false)) (λ b. true)
      go zero e = refl
      go (suc zero) e = absurd (omega arith)
      go (suc (suc zero)) e = absurd (omega arith)
      go (suc (suc (suc zero))) e = absurd (omega arith)
      go (suc (suc (suc (suc zero)))) e = absurd (omega arith)
      go (suc (suc (suc (suc (suc zero))))) e = absurd (omega arith)
      go (suc (suc (suc (suc (suc (suc j)))))) e = refl

  pub bool_mid : LONG_VALUE ≤ k → k ≤ RECORD_VALUE → false ≡ is_bool_row r
  unfolding is_bool_row
  bool_mid l h = go (tag r - first_value) refl
    where
      go : (j : ℕ) → j ≡ tag r - first_value → false ≡ r_bool false (get_or (value_table r) j (rbool false)) (λ b. true)
      go zero e = absurd (omega arith)
      go (suc zero) e = refl
      go (suc (suc zero)) e = refl
      go (suc (suc (suc zero))) e = refl
      go (suc (suc (suc (suc zero)))) e = refl
      go (suc (suc (suc (suc (suc zero))))) e = refl
      go (suc (suc (suc (suc (suc (suc j)))))) e = absurd (omega arith)

-- the type of a row of no other tag
pub type_bool : (y : List ℕ) → (tag y ≡ LONG_TYPE → ⊥) → (tag y ≡ STRING_TYPE → ⊥) → (tag y ≡ ENTITY_TYPE → ⊥) → (tag y ≡ SET_TYPE → ⊥) → (tag y ≡ RECORD_TYPE → ⊥) → type_row y ≡ bool
type_bool y n4 n5 n6 n7 n8 = go (tag y - first_type) refl
  where
    go : (j : ℕ) → j ≡ tag y - first_type → get_or (type_table y) j bool ≡ bool
    go zero e = refl
    go (suc zero) e = absurd (n4 (omega arith))
    go (suc (suc zero)) e = absurd (n5 (omega arith))
    go (suc (suc (suc zero))) e = absurd (n6 (omega arith))
    go (suc (suc (suc (suc zero)))) e = absurd (n7 (omega arith))
    go (suc (suc (suc (suc (suc zero))))) e = absurd (n8 (omega arith))
    go (suc (suc (suc (suc (suc (suc j)))))) e = refl

-- ---- leaves

module _ (r y : List ℕ) (k z : ℕ) (ek : k ≡ tag r) (ez : z ≡ tag y) where
  pub leaf_long : z ≡ LONG_TYPE → Leaf r y (eqb k LONG_VALUE)
  unfolding rows_fit
  leaf_long e = record { is = λ f _ _. rw (← ez, e) (go (eqb k LONG_VALUE) refl) }
    where
      go : (t : Bool) → eqb k LONG_VALUE ≡ t → t ≡ r_long false (value_row r) (λ n. true)
      go true e = rw (← ek, eqb-true k LONG_VALUE e)
      go false e = sym (no_long (value_row r) (λ h. eqb-false k LONG_VALUE e (ek ∙ sort_tag r 0 h)))

  pub leaf_text : z ≡ STRING_TYPE → Leaf r y (eqb k TEXT_VALUE)
  unfolding rows_fit
  leaf_text e = record { is = λ f _ _. rw (← ez, e) (go (eqb k TEXT_VALUE) refl) }
    where
      go : (t : Bool) → eqb k TEXT_VALUE ≡ t → t ≡ r_text false (value_row r) (λ n. true)
      go true e = rw (← ek, eqb-true k TEXT_VALUE e)
      go false e = sym (no_text false (value_row r) (λ n. true) (λ h. eqb-false k TEXT_VALUE e (ek ∙ sort_tag r 1 h)))

  pub leaf_entity : (i : ℕ) (b : Bool) → z ≡ ENTITY_TYPE → k ≡ ENTITY_VALUE → i ≡ get_or r 1 0 → b ≡ kind_in y i → Leaf r y b
  unfolding rows_fit kind_in
  leaf_entity i b e h ei eb = record { is = λ f _ _. rw (← ez, e, ← ek, h, eb, items_two y) (ap (λ n. mem_n n (kinds_in y)) ei) }

  pub leaf_no_entity : z ≡ ENTITY_TYPE → (k ≡ ENTITY_VALUE → ⊥) → Leaf r y false
  unfolding rows_fit
  leaf_no_entity e h = record { is = λ f _ _. rw (← ez, e) (sym (no_entity false (value_row r) (λ l t. mem_n l (get_or y 1 0 ∷ drop 1 (items y))) (λ q. h (ek ∙ sort_tag r 2 q)))) }

  pub leaf_bool : (b : Bool) → (z ≡ LONG_TYPE → ⊥) → (z ≡ STRING_TYPE → ⊥) → (z ≡ ENTITY_TYPE → ⊥) → b ≡ is_bool_row r → Leaf r y b
  unfolding rows_fit is_bool_row
  leaf_bool b n4 n5 n6 eb = record { is = λ f n7 n8. rw (type_bool y (λ e. n4 (ez ∙ e)) (λ e. n5 (ez ∙ e)) (λ e. n6 (ez ∙ e)) n7 n8) eb }

-- ---- sets and records

module _ (f : ℕ → ℕ → Bool) (r y : List ℕ) where
  pub set_is : (e : ℕ) → tag y ≡ SET_TYPE → tag r ≡ SET_VALUE → e ≡ get_or y 1 0 → rows_fit f r y ≡ set_fits f r e
  unfolding rows_fit set_fits
  set_is e hy hr he = rw (hy, hr, he)

  pub set_not : tag y ≡ SET_TYPE → (tag r ≡ SET_VALUE → ⊥) → rows_fit f r y ≡ false
  unfolding rows_fit
  set_not hy hr = rw hy (no_set false (value_row r) (all_in (λ x. f x (get_or y 1 0))) (λ e. hr (sort_tag r 3 e)))

  pub record_is : tag y ≡ RECORD_TYPE → tag r ≡ RECORD_VALUE → complete_in r y ≡ true → rows_fit f r y ≡ record_fits f r y
  unfolding rows_fit record_fits complete_in has_in
  record_is hy hr c = rw (hy, hr, c)

  pub record_lacks : tag y ≡ RECORD_TYPE → tag r ≡ RECORD_VALUE → complete_in r y ≡ false → rows_fit f r y ≡ false
  unfolding rows_fit complete_in has_in
  record_lacks hy hr c = rw (hy, hr, c)

  pub record_not : tag y ≡ RECORD_TYPE → (tag r ≡ RECORD_VALUE → ⊥) → rows_fit f r y ≡ false
  unfolding rows_fit
  record_not hy hr = rw hy (no_record false (value_row r) (entries_fit f (declareds (items y))) (λ e. hr (sort_tag r 4 e)))
