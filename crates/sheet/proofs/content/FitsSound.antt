-- A value that fits a type by number fits it by content.
use mathlib.Core.Path.{◌≡◌, refl, sym, ◌∙◌, ap, subst}
use mathlib.Core.Bool.{Bool, true, false, not, ◌||◌}
use mathlib.Core.Option.{Option, none, some}
use mathlib.Core.List.{List, [], ◌∷◌}
use Prim.Native.Nat.{ℕ, zero, suc}
use lib.Dec.{eqb}
use lib.ListN.{get_or}
use Rattle.cedar.proofs.Tools.{no_true}
use Rattle.cedar.specs.Value.{Value, vbool, find, found, pick, on_some}
use Rattle.cedar.specs.Canonical.{make_set}
use Rattle.cedar.specs.Types.{Ty, tbool, declared, pick_ty, Needed, Complete, Fits, fbool, flong, ftext, fent, fset, frec, AllFit, nil_fit, cons_fit, FieldsFit, no_field, one_field}
use Rattle.cedar.proofs.TypeSound.{fit_ascending}
use Rattle.cedar.proofs.TypingTest.{some_test}
use Rattle.cedar.specs.Rows.{Entries, stop, entry, Row}
use Rattle.cedar.specs.Numbered.{mem_n, pick_n, entry_of, is_some}
use Rattle.sheet.specs.Forms.{Mode}
use Rattle.sheet.specs.State.{lines_of, State, Declared, TypeRow, bool, long, string, entity, set', record', type_at, value_at}
use Rattle.sheet.specs.Typing.{declared_in, required_there, all_in, all_entries, entries_fit, row_fits, fits_by, fits, fits_in}
use Rattle.sheet.specs.Content.{attrs_over, ty_over, types, members_over, fields_over, value_over, contents}
use Rattle.sheet.proofs.reading.Lines.{and_both, History}
use Rattle.sheet.proofs.reading.RowTests.{mem_among, on_bool_law, on_long_law, on_text_law, on_ent_law, on_set_law, on_rec}
use Rattle.sheet.proofs.content.Fitting.{val, val_eq, ty, ty_eq}

abbrev pub map_ty : (ℕ → Ty) → Option ℕ → Option Ty
map_ty f none = none
map_ty f (some y) = some (f y)

pick_ty_law : (f : ℕ → Ty) (b : Bool) (y : ℕ) (o : Option ℕ) {p : Option Ty} → p ≡ map_ty f o → pick_ty b (f y) p ≡ map_ty f (pick_n b y o)
pick_ty_law f true y o e = refl
pick_ty_law f false y o e = e

need_of : (r b : Bool) → (not r || b) ≡ true → Needed r b
need_of true b e = e
need_of false b e = tt

pick_found : (b : Bool) (v : Value) (n : ℕ) (o : Option Value) (p : Option ℕ) → found o ≡ is_some p → found (pick b v o) ≡ is_some (pick_n b n p)
pick_found true v n o p e = refl
pick_found false v n o p e = e

pub find_over : (C : List Value) (t : ℕ) (e : Entries) → found (find t (fields_over C e)) ≡ is_some (entry_of t e)
find_over C t stop = refl
find_over C t (entry u n e) = pick_found (eqb t u) (get_or C n (vbool false)) n (find t (fields_over C e)) (entry_of t e) (find_over C t e)

module _ (ts : List Ty) where
  over : ℕ → Ty
  over y = get_or ts y tbool

  pub declared_over : (t : ℕ) (ds : List Declared) → declared t (attrs_over ts ds) ≡ map_ty (λ y. get_or ts y tbool) (declared_in t ds)
  declared_over t [] = refl
  declared_over t (d ∷ ds) = pick_ty_law (λ y. get_or ts y tbool) (eqb t d.text) d.type (declared_in t ds) (declared_over t ds)

  pub complete_over : (ds : List Declared) (there there' : ℕ → Bool) → ((t : ℕ) → there t ≡ there' t) → required_there ds there ≡ true → Complete (attrs_over ts ds) there'
  complete_over [] there there' q e = tt
  complete_over (d ∷ ds) there there' q e = and_both (not d.required || there d.text) (required_there ds there) e
      (λ a b. (need_of d.required (there' d.text) (subst (λ z. (not d.required || z) ≡ true) (q d.text) a), complete_over ds there there' q b))

module _ (m : Mode) (s : State) (h : History m s) (f : ℕ → ℕ → Bool) (ih : (v t : ℕ) → f v t ≡ true → Fits (val m s h v) (ty m s h t)) where
  members_fit : (y : ℕ) (l : List ℕ) → all_in (λ x. f x y) l ≡ true → AllFit (members_over (contents s) l) (ty m s h y)
  members_fit y [] e = nil_fit
  members_fit y (x ∷ l) e = and_both (f x y) (all_in (λ x. f x y) l) e (λ p q. cons_fit (ih x y p) (members_fit y l q))

  fields_fit_law : (ds : List Declared) (e : Entries) → all_entries (λ t x. on_some false (declared_in t ds) (f x)) e ≡ true → FieldsFit (fields_over (contents s) e) (attrs_over (types s) ds)
  fields_fit_law ds stop e = no_field
  fields_fit_law ds (entry t x es) e = and_both (on_some false (declared_in t ds) (f x)) (all_entries (λ t x. on_some false (declared_in t ds) (f x)) es) e (λ p q.
      some_test (declared_in t ds) (f x) p (λ y d g. one_field (declared_over (types s) t ds ∙ ap (map_ty (λ y. get_or (types s) y tbool)) d) (ih x y g) (fields_fit_law ds es q)))

  at_row : (r : Row) (y : TypeRow) → row_fits f r y ≡ true → Fits (value_over (contents s) r) (ty_over (types s) y)
  unfolding make_set
  at_row r bool e = on_bool_law r (λ b. true) e (λ b q g. rw q fbool)
  at_row r long e = on_long_law r (λ n. true) e (λ n q g. rw q flong)
  at_row r string e = on_text_law r (λ t. true) e (λ t q g. rw q ftext)
  at_row r (entity k ks) e = on_ent_law r (λ l t. mem_n l (k ∷ ks)) e (λ l t q g. rw q (fent (sym (mem_among l (k ∷ ks)) ∙ g)))
  at_row r (set' y) e = on_set_law r (all_in (λ x. f x y)) e (λ l q g. rw q (fset (fit_ascending (members_fit y l g))))
  at_row r (record' ds) e = on_rec r (entries_fit f ds) e (λ es q g. and_both (required_there ds (λ t. is_some (entry_of t es))) (all_entries (λ t x. on_some false (declared_in t ds) (f x)) es) g (λ a b.
      rw q (frec (fields_fit_law ds es b) (complete_over (types s) ds (λ t. is_some (entry_of t es)) (λ t. found (find t (fields_over (contents s) es))) (λ t. sym (find_over (contents s) t es)) a))))

module _ (m : Mode) (s : State) (h : History m s) where
  fits_by_law : (n v t : ℕ) → fits_by (lines_of s 5) (lines_of s 3) n v t ≡ true → Fits (val m s h v) (ty m s h t)
  fits_by_law zero v t e = no_true e
  fits_by_law (suc n) v t e = rw (val_eq m s h v, ty_eq m s h t) (at_row m s h (fits_by (lines_of s 5) (lines_of s 3) n) (λ v t q. fits_by_law n v t q) (value_at s v) (type_at s t) e)

  pub fits_sound : (v t : ℕ) → fits s v t ≡ true → Fits (val m s h v) (ty m s h t)
  unfolding fits_in
  fits_sound v t e = fits_by_law 64 v t e
