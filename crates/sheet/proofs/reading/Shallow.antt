-- Types are never deeper than 64, so what fits by its parts fits: in every state that a reading reaches the depth of 64 is enough.
use mathlib.Core.Path.{◌≡◌, refl, sym, ◌∙◌, ap, subst}
use mathlib.Core.Bool.{Bool, true, false}
use mathlib.Core.Option.{Option, none, some}
use mathlib.Core.List.{List, [], ◌∷◌}
use Prim.Native.Nat.{ℕ, zero, suc, ◌<◌, ◌≤◌, ◌+◌, ◌-◌}
use native.Mathlib.Omega.{arith}
use native.Mathlib.Decide.{dec_lt}
use lib.Dec.{eqb}
use lib.ListN.{length, get_or, drop, get_or-eq_default}
use Rattle.cedar.specs.Value.{on_some}
use Rattle.cedar.specs.Rows.{Entries, stop, entry, Row, rbool, rlong, rtext, rent, rset, rrec}
use Rattle.cedar.specs.Numbered.{entry_of, is_some, pick_n}
use Rattle.cedar.proofs.Tools.{no_true, no_some, iff}
use Rattle.cedar.proofs.TableLaws.{InN, now'}
use Rattle.sheet.specs.Forms.{Mode, forms, form_of, slot_at, is_line, keep, refs_from, refs, tag, items, TYPE, VALUE, no_tag}
use Rattle.sheet.specs.State.{State, lines_of, count, depths_of, Declared, TypeRow, bool, long, string, entity, set', record', declareds, type_row, value_row}
use Rattle.sheet.specs.Typing.{declared_in, required_there, all_in, all_entries, row_fits, fits_by, fits_in}
use Rattle.sheet.specs.Sheet.{read}
use Rattle.sheet.proofs.reading.Lines.{and_both}
use Rattle.sheet.proofs.content.ValueRows.{some_is}
use Rattle.sheet.proofs.content.Fitting.{attr_slots, set_size}
use Rattle.sheet.proofs.content.TypeNumbers.{split_at}
pub use Rattle.sheet.proofs.content.Linked.{in_keep, this_kept}
use Rattle.sheet.proofs.reading.Depths.{Reached, read_reached, reached_history, reached_depths}

-- ---- the parts of a type

pub data Part : TypeRow → ℕ → Type 0 where
  elem : {y : ℕ} → Part (set' y) y
  attr : {ds : List Declared} {y : ℕ} (t : ℕ) → declared_in t ds ≡ some y → Part (record' ds) y

-- types refer downwards, and none is deeper than 64
pub record Shallow (types : List (List ℕ)) (depth : ℕ → ℕ) : Type 0 where
  pub low : (t : ℕ) → depth t < 64
  pub falls : (t y : ℕ) → Part (type_row (get_or types t [])) y → depth y < depth t

-- what fits by its parts fits
pub record Settled (values types : List (List ℕ)) : Type 0 where
  pub closes : (v t : ℕ) → row_fits (fits_in values types) (value_row (get_or values v [])) (type_row (get_or types t [])) ≡ true → fits_in values types v t ≡ true

-- ---- what fits by f fits by g, where f's answers for the type's own parts are g's

module _ (f g : ℕ → ℕ → Bool) where
  all_more : (y : ℕ) (l : List ℕ) → ((x : ℕ) → f x y ≡ true → g x y ≡ true) → all_in (λ x. f x y) l ≡ true → all_in (λ x. g x y) l ≡ true
  all_more y [] h e = refl
  all_more y (x ∷ l) h e = and_both (f x y) (all_in (λ x. f x y) l) e (λ p q. rw (h x p, all_more y l h q))

  some_more : (o : Option ℕ) (x : ℕ) → ((y : ℕ) → o ≡ some y → f x y ≡ true → g x y ≡ true) → on_some false o (f x) ≡ true → on_some false o (g x) ≡ true
  some_more none x h e = e
  some_more (some y) x h e = h y refl e

  entries_more : (ds : List Declared) (e : Entries) → ((t x y : ℕ) → declared_in t ds ≡ some y → f x y ≡ true → g x y ≡ true)
      → all_entries (λ t x. on_some false (declared_in t ds) (f x)) e ≡ true → all_entries (λ t x. on_some false (declared_in t ds) (g x)) e ≡ true
  entries_more ds stop h q = refl
  entries_more ds (entry t x e) h q = and_both (on_some false (declared_in t ds) (f x)) (all_entries (λ t x. on_some false (declared_in t ds) (f x)) e) q
      (λ p r. rw (some_more (declared_in t ds) x (λ y i. h t x y i) p, entries_more ds e h r))

  pub row_more : (r : Row) (T : TypeRow) → ((x y : ℕ) → Part T y → f x y ≡ true → g x y ≡ true) → row_fits f r T ≡ true → row_fits g r T ≡ true
  row_more r bool h e = e
  row_more r long h e = e
  row_more r string h e = e
  row_more r (entity k ks) h e = e
  row_more (rbool b) (set' y) h e = e
  row_more (rlong n) (set' y) h e = e
  row_more (rtext t) (set' y) h e = e
  row_more (rent k t) (set' y) h e = e
  row_more (rset l) (set' y) h e = all_more y l (λ x. h x y elem) e
  row_more (rrec d) (set' y) h e = e
  row_more (rbool b) (record' ds) h e = e
  row_more (rlong n) (record' ds) h e = e
  row_more (rtext t) (record' ds) h e = e
  row_more (rent k t) (record' ds) h e = e
  row_more (rset l) (record' ds) h e = e
  row_more (rrec d) (record' ds) h e = and_both (required_there ds (λ t. is_some (entry_of t d))) (all_entries (λ t x. on_some false (declared_in t ds) (f x)) d) e
      (λ p q. rw (p, entries_more ds d (λ t x y i. h x y (attr t i)) q))

module _ (values types : List (List ℕ)) (depth : ℕ → ℕ) (s : Shallow types depth) where
  pub enough : (n m v t : ℕ) → depth t < m → fits_by values types n v t ≡ true → fits_by values types m v t ≡ true
  enough zero m v t l e = no_true e
  enough (suc n) zero v t l e = absurd (omega arith)
  enough (suc n) (suc m) v t l e =
      row_more (fits_by values types n) (fits_by values types m) (value_row (get_or values v [])) (type_row (get_or types t []))
      (λ x y p q. enough n m x y (let z = s.falls t y p in omega (arith, z)) q) e

  -- a greater depth gives the same answer
  pub deeper : (n v t : ℕ) → 64 ≤ n → fits_by values types n v t ≡ fits_by values types 64 v t
  deeper n v t h = let d = s.low t in iff (fits_by values types n v t) (fits_by values types 64 v t) (enough n 64 v t d) (enough 64 n v t (omega (arith, d)))

  pub settled : Settled values types
  unfolding fits_in
  settled = record { closes = λ v t e. enough 65 64 v t (s.low t) e }

-- ---- the parts of a type are among its row's references

set_ref : (l : List ℕ) → length l ≡ 1 → InN (get_or l 0 0) (refs_from 3 7 0 l)
unfolding slot_at form_of forms
set_ref [] e = absurd (omega (arith, e))
set_ref (x ∷ l) e = now'

attr_refs : (i t y : ℕ) (l : List ℕ) → declared_in t (declareds l) ≡ some y → InN y (refs_from 3 8 (i + i + i) l)
attr_refs i t y [] e = no_some e
attr_refs i t y (a ∷ []) e = no_some e
attr_refs i t y (a ∷ b ∷ []) e = no_some e
attr_refs i t y (a ∷ b ∷ c ∷ l) e = in_keep (is_line 3 (slot_at 8 (i + i + i))) a y _ (in_keep (is_line 3 (slot_at 8 (suc (i + i + i)))) b y _
    (go (eqb t a) (λ q. subst (λ j. InN y (refs_from 3 8 j l)) (omega arith) (attr_refs (suc i) t y l q)) e))
  where
    go : (p : Bool) → (declared_in t (declareds l) ≡ some y → InN y (refs_from 3 8 (suc (suc (suc (i + i + i)))) l)) → pick_n p c (declared_in t (declareds l)) ≡ some y
        → InN y (keep (is_line 3 (slot_at 8 (suc (suc (i + i + i))))) c (refs_from 3 8 (suc (suc (suc (i + i + i)))) l))
    go true ih q = subst (λ z. InN z (keep (is_line 3 (slot_at 8 (suc (suc (i + i + i))))) c (refs_from 3 8 (suc (suc (suc (i + i + i)))) l))) (some_is q)
        (this_kept (is_line 3 (slot_at 8 (suc (suc (i + i + i))))) c (refs_from 3 8 (suc (suc (suc (i + i + i)))) l) (ap (is_line 3) (attr_slots i)))
    go false ih q = in_keep (is_line 3 (slot_at 8 (suc (suc (i + i + i))))) c y _ (ih q)

pub set_part : {x y : ℕ} → Part (set' x) y → x ≡ y
set_part elem = refl

pub attr_part : {X : Type 0} {ds : List Declared} {y : ℕ} → Part (record' ds) y → ((t : ℕ) → declared_in t ds ≡ some y → X) → X
attr_part (attr t e) f = f t e

part_in : (r : List ℕ) (y : ℕ) → (tag r ≡ 7 → length (items r) ≡ 1) → Part (type_row r) y → InN y (refs 3 r)
unfolding refs
part_in [] y n p = elim p [ ]
part_in (t ∷ l) y n p = go (t - 3) refl p
  where
    go : (d : ℕ) → t - 3 ≡ d → Part (get_or (bool ∷ long ∷ string ∷ entity (get_or l 0 0) (drop 1 l) ∷ set' (get_or l 0 0) ∷ record' (declareds l) ∷ []) d bool) y → InN y (refs_from 3 t 0 l)
    go zero q p = elim p [ ]
    go (suc zero) q p = elim p [ ]
    go (suc (suc zero)) q p = elim p [ ]
    go (suc (suc (suc zero))) q p = elim p [ ]
    go (suc (suc (suc (suc zero)))) q p = subst (λ z. InN z (refs_from 3 t 0 l)) (set_part p) (subst (λ z. InN (get_or l 0 0) (refs_from 3 z 0 l)) (omega (arith, q)) (set_ref l (n (omega (arith, q)))))
    go (suc (suc (suc (suc (suc zero))))) q p = attr_part p (λ u e. subst (λ z. InN y (refs_from 3 z 0 l)) (omega (arith, q)) (attr_refs 0 u y l e))
    go (suc (suc (suc (suc (suc (suc d)))))) q p = elim p [ ]

-- ---- in every state that a reading reaches

module _ {m : Mode} {s : State} (h : Reached m s) where
  set_one : (t : ℕ) → tag (get_or (lines_of s TYPE) t []) ≡ 7 → length (items (get_or (lines_of s TYPE) t [])) ≡ 1
  set_one t q = go (dec_lt t (count s TYPE))
    where
      go : Dec (t < count s TYPE) → length (items (get_or (lines_of s TYPE) t [])) ≡ 1
      go (yes d) = split_at (lines_of s TYPE) t d (λ pre rest e. let w = reached_history h TYPE pre (get_or (lines_of s TYPE) t []) rest e in set_size m (get_or (lines_of s TYPE) t []) w.line w.row q)
      go (no d) = let z : ◌≡◌ {A = ℕ} no_tag 7 = ap tag (sym (get_or-eq_default (lines_of s TYPE) [] (omega arith))) ∙ q in absurd (omega (arith, z))

  -- one less than a type's depth
  pub types_shallow : Shallow (lines_of s TYPE) (λ t. get_or (depths_of s TYPE) t 0 - 1)
  types_shallow = record {
    low = λ t. let a = ((reached_depths h).deep TYPE).low t in omega (arith, a);
    falls = λ t y p.
        let (a, b) = ((reached_depths h).deep TYPE).falls t y (part_in (get_or (lines_of s TYPE) t []) y (set_one t) p) in
        let c = ((reached_depths h).deep TYPE).least y a in
        omega (arith, b, c);
  }

  -- THE DEPTH OF 64 IS ENOUGH
  pub reached_settled : Settled (lines_of s VALUE) (lines_of s TYPE)
  reached_settled = settled (lines_of s VALUE) (lines_of s TYPE) (λ t. get_or (depths_of s TYPE) t 0 - 1) types_shallow

  pub fits_deeper : (n v t : ℕ) → 64 ≤ n → fits_by (lines_of s VALUE) (lines_of s TYPE) n v t ≡ fits_by (lines_of s VALUE) (lines_of s TYPE) 64 v t
  fits_deeper n v t le = deeper (lines_of s VALUE) (lines_of s TYPE) (λ t. get_or (depths_of s TYPE) t 0 - 1) types_shallow n v t le

-- of the state in which the reading of a sheet ends, accepted or not
pub read_settled : (m : Mode) (sheet : List ℕ) → Settled (lines_of (read m sheet).state VALUE) (lines_of (read m sheet).state TYPE)
read_settled m sheet = reached_settled (read_reached m sheet)
