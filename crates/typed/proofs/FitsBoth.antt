-- A value fits a type by number exactly if it fits by content.
use mathlib.Core.Path.{◌≡◌, refl, sym, ◌∙◌, ap, ap₂}
use mathlib.Core.Bool.{Bool, true, false, not, ◌&&◌, ◌||◌}
use mathlib.Core.Option.{Option, none, some}
use mathlib.Core.List.{List, [], ◌∷◌}
use Prim.Native.Nat.{ℕ, zero, suc, ◌<◌, ◌-◌, Ordering}
use native.Mathlib.Omega.{arith}
use lib.ListN.{get_or}
use Rattle.cedar.specs.Value.{Value, vbool, Values, vnil, vcons, find, found, on_some}
use Rattle.cedar.specs.Canonical.{order, place, insert, ascending, make_set}
use Rattle.cedar.specs.Types.{Ty, tbool}
use Rattle.cedar.specs.TypingTest.{all_fit, fields_fit, completed, need}
use Rattle.cedar.specs.TypingTest as Test
use Rattle.cedar.specs.Rows.{Entries, stop, entry, Row, rbool, rlong, rtext, rent, rset, rrec}
use Rattle.cedar.specs.Numbered.{is_some, entry_of}
use Rattle.cedar.proofs.CanonicalLaws.{order_eq}
use Rattle.sheet.specs.Forms.{Mode, TYPE, VALUE}
use Rattle.sheet.specs.State.{State, lines_of, depths_of, Declared, TypeRow, bool, long, string, entity, set', record', type_at, value_at}
use Rattle.sheet.specs.Typing.{declared_in, required_there, all_in, all_entries, row_fits, fits_by, fits, fits_in}
use Rattle.sheet.specs.Content.{types, contents, content_of, attrs_over, ty_over, members_over, fields_over, value_over}
use Rattle.sheet.proofs.reading.RowTests.{mem_among}
use Rattle.sheet.proofs.content.Fitting.{val_eq, ty_eq}
use Rattle.sheet.proofs.content.FitsSound.{find_over, declared_over, map_ty}
use Rattle.sheet.proofs.reading.Depths.{Reached, reached_history}
use Rattle.sheet.proofs.reading.Shallow.{Part, elem, attr, types_shallow}
use Rattle.typed.specs.ByContent.{type_in, each_value}

-- ---- a test of each member of a set

and_swap : (a b c : Bool) → (a && (b && c)) ≡ (b && (a && c))
and_swap true true c = refl
and_swap true false c = refl
and_swap false true c = refl
and_swap false false c = refl

and_again : (a b : Bool) → (a && b) ≡ (a && (a && b))
and_again true b = refl
and_again false b = refl

pub and_one : (p : Bool) → p ≡ (p && true)
and_one true = refl
and_one false = refl

pub and_turn : (a b : Bool) → (a && b) ≡ (b && a)
and_turn true true = refl
and_turn true false = refl
and_turn false true = refl
and_turn false false = refl

module _ (f : Value → Bool) where
  each_place : (o : Ordering) (v w : Value) (ws r : Values) → order v w ≡ o → each_value f r ≡ (f v && each_value f ws) → each_value f (place o v w ws r) ≡ (f v && (f w && each_value f ws))
  unfolding place
  each_place Ordering.lt v w ws r q e = refl
  each_place Ordering.eq v w ws r q e = and_again (f w) (each_value f ws) ∙ ap (λ x. f x && (f w && each_value f ws)) (sym (order_eq v w q))
  each_place Ordering.gt v w ws r q e = ap (λ b. f w && b) e ∙ and_swap (f w) (f v) (each_value f ws)

  each_insert : (v : Value) (ws : Values) → each_value f (insert v ws) ≡ (f v && each_value f ws)
  unfolding insert
  each_insert v vnil = refl
  each_insert v (vcons w ws) = each_place (order v w) v w ws (insert v ws) refl (each_insert v ws)

  pub each_ascending : (vs : Values) → each_value f (ascending vs) ≡ each_value f vs
  unfolding ascending
  each_ascending vnil = refl
  each_ascending (vcons v vs) = each_insert v (ascending vs) ∙ ap (λ b. f v && b) (each_ascending vs)

fit_each : (vs : Values) (A : Ty) → all_fit vs A ≡ each_value (λ v. Test.fits v A) vs
fit_each vnil A = refl
fit_each (vcons v vs) A = ap (λ b. Test.fits v A && b) (fit_each vs A)

-- ---- one row against one type, where f judges the parts by content

needs : (r b : Bool) → (not r || b) ≡ need r b
needs true b = refl
needs false b = refl

pub required_same : (ts : List Ty) (ds : List Declared) (there there' : ℕ → Bool) → ((t : ℕ) → there t ≡ there' t) → required_there ds there ≡ completed (attrs_over ts ds) there'
required_same ts [] there there' q = refl
required_same ts (d ∷ ds) there there' q = ap₂ ◌&&◌ (needs d.required (there d.text) ∙ ap (need d.required) (q d.text)) (required_same ts ds there there' q)

module _ (ts : List Ty) (C : List Value) (f : ℕ → ℕ → Bool) where
  abbrev Judges : TypeRow → Type 0
  Judges row = (x y : ℕ) → Part row y → f x y ≡ Test.fits (get_or C x (vbool false)) (get_or ts y tbool)

  members_same : (y : ℕ) (l : List ℕ) → Judges (set' y) → all_in (λ x. f x y) l ≡ each_value (λ v. Test.fits v (get_or ts y tbool)) (members_over C l)
  members_same y [] h = refl
  members_same y (x ∷ l) h = ap₂ ◌&&◌ (h x y elem) (members_same y l h)

  some_same : (x : ℕ) (o : Option ℕ) → ((y : ℕ) → o ≡ some y → f x y ≡ Test.fits (get_or C x (vbool false)) (get_or ts y tbool)) → on_some false o (f x) ≡ on_some false (map_ty (λ y. get_or ts y tbool) o) (λ A. Test.fits (get_or C x (vbool false)) A)
  some_same x none h = refl
  some_same x (some y) h = h y refl

  entries_same : (ds : List Declared) (e : Entries) → Judges (record' ds) → all_entries (λ t x. on_some false (declared_in t ds) (f x)) e ≡ fields_fit (fields_over C e) (attrs_over ts ds)
  entries_same ds stop h = refl
  entries_same ds (entry t x e) h = ap₂ ◌&&◌
      (some_same x (declared_in t ds) (λ y q. h x y (attr t q)) ∙ ap (λ o. on_some false o (λ A. Test.fits (get_or C x (vbool false)) A)) (sym (declared_over ts t ds)))
      (entries_same ds e h)

  row_same : (r : Row) (row : TypeRow) → Judges row → row_fits f r row ≡ Test.fits (value_over C r) (ty_over ts row)
  unfolding make_set
  row_same (rbool b) bool h = refl
  row_same (rbool b) long h = refl
  row_same (rbool b) string h = refl
  row_same (rbool b) (entity k ks) h = refl
  row_same (rbool b) (set' y) h = refl
  row_same (rbool b) (record' ds) h = refl
  row_same (rlong n) bool h = refl
  row_same (rlong n) long h = refl
  row_same (rlong n) string h = refl
  row_same (rlong n) (entity k ks) h = refl
  row_same (rlong n) (set' y) h = refl
  row_same (rlong n) (record' ds) h = refl
  row_same (rtext t) bool h = refl
  row_same (rtext t) long h = refl
  row_same (rtext t) string h = refl
  row_same (rtext t) (entity k ks) h = refl
  row_same (rtext t) (set' y) h = refl
  row_same (rtext t) (record' ds) h = refl
  row_same (rent l t) bool h = refl
  row_same (rent l t) long h = refl
  row_same (rent l t) string h = refl
  row_same (rent l t) (entity k ks) h = mem_among l (k ∷ ks)
  row_same (rent l t) (set' y) h = refl
  row_same (rent l t) (record' ds) h = refl
  row_same (rset l) bool h = refl
  row_same (rset l) long h = refl
  row_same (rset l) string h = refl
  row_same (rset l) (entity k ks) h = refl
  row_same (rset l) (set' y) h = members_same y l h ∙ sym (each_ascending (λ v. Test.fits v (get_or ts y tbool)) (members_over C l)) ∙ sym (fit_each (ascending (members_over C l)) (get_or ts y tbool))
  row_same (rset l) (record' ds) h = refl
  row_same (rrec e) bool h = refl
  row_same (rrec e) long h = refl
  row_same (rrec e) string h = refl
  row_same (rrec e) (entity k ks) h = refl
  row_same (rrec e) (set' y) h = refl
  row_same (rrec e) (record' ds) h =
      ap₂ ◌&&◌ (required_same ts ds (λ t. is_some (entry_of t e)) (λ t. found (find t (fields_over C e))) (λ t. sym (find_over C t e))) (entries_same ds e h)
      ∙ and_turn (completed (attrs_over ts ds) (λ t. found (find t (fields_over C e)))) (fields_fit (fields_over C e) (attrs_over ts ds))

-- ---- in every state that a reading reaches

module _ {m : Mode} {s : State} (h : Reached m s) where
  below : ℕ → ℕ
  below t = get_or (depths_of s TYPE) t 0 - 1

  fits_at : (n v t : ℕ) → below t < n → fits_by (lines_of s VALUE) (lines_of s TYPE) n v t ≡ Test.fits (content_of s v) (type_in s t)
  unfolding below
  fits_at zero v t lt = absurd (omega arith)
  fits_at (suc n) v t lt =
      row_same (types s) (contents s) (fits_by (lines_of s VALUE) (lines_of s TYPE) n) (value_at s v) (type_at s t) (λ x y p. fits_at n x y (let z = (types_shallow h).falls t y p in omega (arith, z, lt)))
      ∙ sym (ap₂ Test.fits (val_eq m s (reached_history h) v) (ty_eq m s (reached_history h) t))

  -- A VALUE FITS BY NUMBER EXACTLY IF IT FITS BY CONTENT
  pub fits_both : (v t : ℕ) → fits s v t ≡ Test.fits (content_of s v) (type_in s t)
  unfolding fits_in below
  fits_both v t = fits_at 64 v t ((types_shallow h).low t)
