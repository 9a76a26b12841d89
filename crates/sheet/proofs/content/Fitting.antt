-- What fits by number fits by content.
use mathlib.Core.Path.{◌≡◌, refl, sym, ◌∙◌, ap, ap₂, subst}
use mathlib.Core.Bool.{true, false, cond, ◌&&◌}
use mathlib.Core.Option.{some}
use mathlib.Core.List.{List, [], ◌∷◌, ◌++◌, append_assoc, append-nil}
use Prim.Native.Nat.{ℕ, zero, suc, ◌<◌, ◌+◌, ◌-◌, ◌%◌}
use native.Mathlib.Omega.{arith}
use native.Mathlib.Decide.{dec_lt}
use borrow.Author.Tests.{ltb-true, le-ltb}
use lib.Dec.{eqb}
use lib.ListN.{length, get_or, length-append, get_or-eq_default, get_or-append, drop}
use Rattle.cedar.specs.Value.{Value, vbool, vset, vrec, Values, vcons, Fields, fcons}
use Rattle.cedar.specs.Canonical.{ascending, make_set}
use Rattle.cedar.specs.Types.{Ty, tbool, tlong, tstr, tent, tset, trec, Attrs, anil, acons}
use Rattle.cedar.specs.Rows.{Entries, Row}
use Rattle.cedar.specs.Table.{At, now, later, Elems, elem0, elem1, Named, name0, name1, Denotes, dbool, dlong, dtext, dent, dset, drec}
use Rattle.cedar.proofs.TableLaws.{row_of_law, same_length, at_append, at_snoc}
use Rattle.cedar.proofs.ReadsLaws.{at_is}
use Rattle.sheet.specs.Forms.{Mode, Slot, line, word, nothing, forms, form_of, slot_at, counted, items_from, tag, items, row_of, ascendings, TYPE, VALUE, no_tag}
use Rattle.sheet.specs.State.{State, lines_of, count, Declared, TypeRow, bool, long, string, entity, set', record', declareds, type_row, type_at, value_row, value_at}
use Rattle.sheet.specs.Sheet.{found as foundLine, all_there, there_is, ascend, fresh}
use Rattle.sheet.specs.Content.{attrs_over, ty_over, tys_from, types, members_over, fields_over, value_over, rows_in, value_rows, contents}
use Rattle.sheet.proofs.reading.Lines.{and_both, Was, History}
use Rattle.sheet.proofs.reading.Parsed.{parsed, counted_plain}
use Rattle.sheet.proofs.content.ValueRows.{at_get_d, values_table, items_length, is_number, rows_length}

-- ---- a value's content is that of its row, over all contents

pub at_less : {A : Type 0} {l : List A} {n : ℕ} {a : A} → At l n a → n < length l
at_less now = omega arith
at_less (later h) = let z = at_less h in omega (arith, z)

module _ {C : List Value} where
  elems_over : {l : List ℕ} {vs : Values} → Elems C l vs → members_over C l ≡ vs
  elems_over elem0 = refl
  elems_over (elem1 a e) = ap₂ vcons (at_is (vbool false) a) (elems_over e)

  named_over : {e : Entries} {fs : Fields} → Named C e fs → fields_over C e ≡ fs
  named_over name0 = refl
  named_over (name1 {t = t} a e) = ap₂ (fcons t) (at_is (vbool false) a) (named_over e)

  pub denotes_over : {r : Row} {v : Value} → Denotes C r v → v ≡ value_over C r
  unfolding make_set
  denotes_over dbool = refl
  denotes_over dlong = refl
  denotes_over dtext = refl
  denotes_over dent = refl
  denotes_over (dset a e q) = ap vset (sym q ∙ ap ascending (sym (elems_over e)))
  denotes_over (drec e) = ap vrec (sym (named_over e))

rows_at : (l : List (List ℕ)) {n : ℕ} {r : Row} → At (rows_in l) n r → r ≡ value_row (get_or l n [])
rows_at [] a = elim a [ ]
rows_at (x ∷ l) now = refl
rows_at (x ∷ l) (later a) = rows_at l a

module _ (m : Mode) (s : State) (h : History m s) where
  abbrev pub val : ℕ → Value
  val n = get_or (contents s) n (vbool false)

  pub contents_length : length (contents s) ≡ count s VALUE
  unfolding value_rows
  contents_length = sym (same_length (values_table m s h)) ∙ rows_length (lines_of s VALUE)

  pub val_eq : (n : ℕ) → val n ≡ value_over (contents s) (value_at s n)
  unfolding value_rows
  val_eq n = go (dec_lt n (length (contents s)))
    where
      go : Dec (n < length (contents s)) → val n ≡ value_over (contents s) (value_at s n)
      go (yes d) = let (r, a, e) = row_of_law (values_table m s h) (at_get_d (contents s) n (vbool false) d) in denotes_over e ∙ ap (value_over (contents s)) (rows_at (lines_of s VALUE) a)
      go (no d) = get_or-eq_default (contents s) (vbool false) (omega arith) ∙ ap (λ r. value_over (contents s) (value_row r)) (sym (get_or-eq_default (lines_of s VALUE) [] (omega (arith, contents_length))))

-- ---- a type's content is that of its row, over all types

pub data AttrsAt (ts : List Ty) : List Declared → Attrs → Type 0 where
  no_a : AttrsAt ts [] anil
  one_a : {d : Declared} {ds : List Declared} {A : Ty} {R : Attrs} → At ts d.type A → AttrsAt ts ds R → AttrsAt ts (d ∷ ds) (acons d.text d.required A R)

pub data TyAt (ts : List Ty) : TypeRow → Ty → Type 0 where
  abool : TyAt ts bool tbool
  along : TyAt ts long tlong
  astr : TyAt ts string tstr
  aent : {k : ℕ} {ks : List ℕ} → TyAt ts (entity k ks) (tent k ks)
  aset : {t : ℕ} {A : Ty} → At ts t A → TyAt ts (set' t) (tset A)
  arec : {ds : List Declared} {R : Attrs} → AttrsAt ts ds R → TyAt ts (record' ds) (trec R)

keep_attrs : {ts : List Ty} (us : List Ty) {ds : List Declared} {R : Attrs} → AttrsAt ts ds R → AttrsAt (ts ++ us) ds R
keep_attrs us no_a = no_a
keep_attrs us (one_a a h) = one_a (at_append us a) (keep_attrs us h)

keep_ty : {ts : List Ty} (us : List Ty) {y : TypeRow} {T : Ty} → TyAt ts y T → TyAt (ts ++ us) y T
keep_ty us abool = abool
keep_ty us along = along
keep_ty us astr = astr
keep_ty us aent = aent
keep_ty us (aset a) = aset (at_append us a)
keep_ty us (arec h) = arec (keep_attrs us h)

attrs_over_law : {ts : List Ty} {ds : List Declared} {R : Attrs} → AttrsAt ts ds R → attrs_over ts ds ≡ R
attrs_over_law no_a = refl
attrs_over_law (one_a {d = d} a h) = ap₂ (acons d.text d.required) (at_is tbool a) (attrs_over_law h)

ty_over_law : {ts : List Ty} {y : TypeRow} {T : Ty} → TyAt ts y T → T ≡ ty_over ts y
ty_over_law abool = refl
ty_over_law along = refl
ty_over_law astr = refl
ty_over_law aent = refl
ty_over_law (aset a) = ap tset (sym (at_is tbool a))
ty_over_law (arec h) = ap trec (sym (attrs_over_law h))

pub attr_slots : (i : ℕ) → slot_at 8 (suc (suc (i + i + i))) ≡ line 3
unfolding slot_at form_of forms
attr_slots i = let d : (suc (suc (i + i + i)) - 0) % 3 ≡ 2 = omega arith in
    ap₂ (λ b d. cond b nothing (get_or (line 1 ∷ word ("o" ∷ "r" ∷ []) ∷ line 3 ∷ []) d nothing)) (le-ltb (suc (suc (i + i + i))) 0 (omega arith)) d

set_slot : (j : ℕ) → is_number (slot_at 7 j) ≡ false
unfolding is_number slot_at form_of forms
set_slot zero = refl
set_slot (suc j) = rw (le-ltb (suc j) 1 (omega arith)) refl

module _ (s : State) (ts : List Ty) (size : length ts ≡ count s TYPE) where
  type_there : (sl : Slot) (n : ℕ) → sl ≡ line 3 → there_is s sl n ≡ true → At ts n (get_or ts n tbool)
  type_there sl n e p = let z = ltb-true n (count s 3) (sym (ap (λ z. there_is s z n) e) ∙ p) in at_get_d ts n tbool (omega (arith, z, size))

  attrs_of : (i : ℕ) (l : List ℕ) → all_there s 8 (i + i + i) l ≡ true → AttrsAt ts (declareds l) (attrs_over ts (declareds l))
  attrs_of i [] e = no_a
  attrs_of i (t ∷ []) e = no_a
  attrs_of i (t ∷ r ∷ []) e = no_a
  attrs_of i (t ∷ r ∷ y ∷ l) e =
      and_both (there_is s (slot_at 8 (i + i + i)) t) (there_is s (slot_at 8 (suc (i + i + i))) r && (there_is s (slot_at 8 (suc (suc (i + i + i)))) y && all_there s 8 (suc (suc (suc (i + i + i)))) l)) e (λ p q.
      and_both (there_is s (slot_at 8 (suc (i + i + i))) r) (there_is s (slot_at 8 (suc (suc (i + i + i)))) y && all_there s 8 (suc (suc (suc (i + i + i)))) l) q (λ a b.
      and_both (there_is s (slot_at 8 (suc (suc (i + i + i)))) y) (all_there s 8 (suc (suc (suc (i + i + i)))) l) b (λ x z.
      one_a {d = record { text = t; required = eqb r 1; type = y }} (type_there (slot_at 8 (suc (suc (i + i + i)))) y (attr_slots i) x) (attrs_of (suc i) l (subst (λ j. all_there s 8 j l ≡ true) (omega arith) z)))))

  set_at : (l : List ℕ) → length l ≡ 1 → all_there s 7 0 l ≡ true → TyAt ts (set' (get_or l 0 0)) (tset (get_or ts (get_or l 0 0) tbool))
  unfolding slot_at form_of forms
  set_at [] n e = absurd (omega (arith, n))
  set_at (x ∷ l) n e = and_both (there_is s (line 3) x) (all_there s 7 1 l) e (λ p q. aset (type_there (line 3) x refl p))

  pub ty_row : (r : List ℕ) → (tag r ≡ 7 → length (items r) ≡ 1) → foundLine s TYPE r ≡ true → TyAt ts (type_row r) (ty_over ts (type_row r))
  unfolding foundLine
  ty_row [] n e = abool
  ty_row (t ∷ l) n e = and_both (all_there s t 0 l && ascend 0 (ascendings (t ∷ l))) (fresh s 3 (t ∷ l)) e (λ p q. and_both (all_there s t 0 l) (ascend 0 (ascendings (t ∷ l))) p (λ a b. go a (t - 3) refl))
    where
      go : all_there s t 0 l ≡ true → (d : ℕ) → t - 3 ≡ d → TyAt ts (get_or (bool ∷ long ∷ string ∷ entity (get_or l 0 0) (drop 1 l) ∷ set' (get_or l 0 0) ∷ record' (declareds l) ∷ []) d bool)
          (ty_over ts (get_or (bool ∷ long ∷ string ∷ entity (get_or l 0 0) (drop 1 l) ∷ set' (get_or l 0 0) ∷ record' (declareds l) ∷ []) d bool))
      go a zero q = abool
      go a (suc zero) q = along
      go a (suc (suc zero)) q = astr
      go a (suc (suc (suc zero))) q = aent
      go a (suc (suc (suc (suc zero)))) q = set_at l (n (omega (arith, q))) (subst (λ z. all_there s z 0 l ≡ true) (omega (arith, q)) a)
      go a (suc (suc (suc (suc (suc zero))))) q = arec (attrs_of 0 l (subst (λ z. all_there s z 0 l ≡ true) (omega (arith, q)) a))
      go a (suc (suc (suc (suc (suc (suc d)))))) q = abool

module _ (m : Mode) where
  pub set_size : (r l : List ℕ) → r ≡ row_of m l → tag r ≡ 7 → length (items r) ≡ 1
  unfolding counted form_of forms
  set_size r l e k = parsed m r (λ q. let z : no_tag ≡ 7 = sym (ap tag q) ∙ k in absurd (omega (arith, z))) (λ v q. let z : 1 ≡ 7 = sym (ap tag q) ∙ k in absurd (omega (arith, z)))
      (λ t fs l c i q. let z : t ≡ 7 = sym (ap tag q) ∙ k in
      ap (λ x. length (items x)) q ∙ items_length m 7 set_slot 0 fs (subst (λ x. items_from m x 0 fs ≡ some l) z i) ∙ counted_plain (form_of 7) (length fs) refl (subst (λ x. counted x (length fs) ≡ true) z c))
      l e

module _ (m : Mode) (s : State) (h : History m s) where
  unfoldable pub Known : List (List ℕ) → List Ty → Type 0
  Known pre ts = (length ts ≡ length pre) × ((n : ℕ) (T : Ty) → At ts n T → TyAt ts (type_row (get_or pre n [])) T)

  get_d_seam : (pre : List (List ℕ)) (r : List ℕ) → get_or (pre ++ (r ∷ [])) (length pre) [] ≡ r
  get_d_seam [] r = refl
  get_d_seam (x ∷ pre) r = get_d_seam pre r

  pub one_known : (pre : List (List ℕ)) (r : List ℕ) (ts : List Ty) → Was m s TYPE pre r → Known pre ts → Known (pre ++ (r ∷ [])) (ts ++ (ty_over ts (type_row r) ∷ []))
  unfolding Known
  one_known pre r ts w k = (
    length-append ts (ty_over ts (type_row r) ∷ []) ∙ ap (λ n. n + 1) k.0 ∙ sym (length-append pre (r ∷ [])),
    λ n T a. at_snoc ts a
        (λ b. subst (λ z. TyAt (ts ++ (ty_over ts (type_row r) ∷ [])) (type_row z) T) (sym (get_or-append pre (r ∷ []) [] n (let z = at_less b in omega (arith, z, k.0)))) (keep_ty (ty_over ts (type_row r) ∷ []) (k.1 n T b)))
        (λ p q. rw (p ∙ k.0, get_d_seam pre r, q) (keep_ty (ty_over ts (type_row r) ∷ []) (ty_row w.was ts (k.0 ∙ ap length (sym w.mine)) r (set_size m r w.line w.row) w.pass.refers))),
  )

  known_from : (pre rest : List (List ℕ)) (ts : List Ty) → lines_of s TYPE ≡ pre ++ rest → Known pre ts → Known (pre ++ rest) (tys_from ts rest)
  known_from pre [] ts e k = subst (λ z. Known z ts) (sym (append-nil pre)) k
  known_from pre (r ∷ rest) ts e k =
      let q : pre ++ (r ∷ rest) ≡ (pre ++ (r ∷ [])) ++ rest = sym (append_assoc pre (r ∷ []) rest) in
      subst (λ z. Known z (tys_from (ts ++ (ty_over ts (type_row r) ∷ [])) rest)) (sym q) (known_from (pre ++ (r ∷ [])) rest (ts ++ (ty_over ts (type_row r) ∷ [])) (e ∙ q) (one_known pre r ts (h TYPE pre r rest e) k))

  pub all_known : Known (lines_of s TYPE) (types s)
  unfolding types Known
  all_known = known_from [] (lines_of s TYPE) [] refl (refl, λ n T a. elim a [ ])

  abbrev pub ty : ℕ → Ty
  ty n = get_or (types s) n tbool

  pub ty_eq : (n : ℕ) → ty n ≡ ty_over (types s) (type_at s n)
  unfolding Known
  ty_eq n = go (dec_lt n (length (types s)))
    where
      go : Dec (n < length (types s)) → ty n ≡ ty_over (types s) (type_at s n)
      go (yes d) = ty_over_law (all_known.1 n (ty n) (at_get_d (types s) n tbool d))
      go (no d) = get_or-eq_default (types s) tbool (omega arith) ∙ ap (λ r. ty_over (types s) (type_row r)) (sym (get_or-eq_default (lines_of s TYPE) [] (omega (arith, all_known.0))))
