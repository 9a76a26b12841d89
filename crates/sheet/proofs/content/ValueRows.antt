-- The value lines of an accepted sheet are a table of distinct rows.
use mathlib.Core.Path.{◌≡◌, refl, sym, ◌∙◌, ap, ap₂, subst}
use mathlib.Core.Bool.{Bool, true, false, cond, ◌&&◌, ◌||◌}
use mathlib.Core.Option.{Option, none, some, some-injective}
use mathlib.Core.List.{List, [], ◌∷◌, ◌++◌, append_assoc, append-nil}
use Prim.Native.Nat.{ℕ, zero, suc, ◌<◌, ◌≤◌, ◌+◌, ◌-◌, ◌*◌, ◌/◌, ◌%◌}
use native.Mathlib.Nat.{le_of_suc-le-suc}
use native.Mathlib.Omega.{arith}
use borrow.Author.Tests.{eq-eqb, leb-true, leb-false, ltb-true, le-ltb, not-true}
use lib.Dec.{leb, ltb, eqb}
use lib.IntN.{ℤ, pos, negsuc}
use lib.ListN.{length, get_or, length-append}
use Rattle.cedar.proofs.Tools.{no_true, no_some, eqb_true, neither}
use Rattle.cedar.specs.Value.{Value, vbool}
use Rattle.cedar.specs.Canonical.{bit, make_set}
use Rattle.cedar.specs.Rows.{Entries, stop, entry, Row, rbool, rlong, rtext, rent, rset, rrec}
use Rattle.cedar.specs.Table.{At, now, later, Least, end, less, Asc, up, Elems, elem0, elem1, Named, name0, name1, Denotes, dbool, dlong, dtext, dent, dset, drec, Table, start, grow}
use Rattle.cedar.proofs.TableLaws.{same_length}
use Rattle.sheet.specs.Ascii.{ascii}
use Rattle.sheet.specs.Bytes.{same, index, long, long_at, half, date}
use Rattle.sheet.specs.Forms.{Mode, Slot, entry as entryˢ, line, line_or, line_unknown, word, number, nothing, forms, form_of, counted, slot_at, item, items_from, one, two, joined, word_number, mark_or, is_partial, mode_word, place_in, tag, items, at, key_of, row_of, VALUE, ascendings, every_from, no_key, no_tag, day}
use Rattle.sheet.specs.State.{State, lines_of, count, entries_of, value_row}
use Rattle.sheet.specs.Sheet.{found, all_there, there_is, ascend, among, fresh}
use Rattle.sheet.specs.Content.{members_over, fields_over, value_over, values_from, rows_in, value_rows, contents}
use Rattle.sheet.proofs.reading.Lines.{and_both, Was, History}
use Rattle.sheet.proofs.reading.Parsed.{parsed, all_below, between, tags_between, counted_plain}

-- ---- a value's row says what its line said

abbrev pub word_of : ℤ → ℕ
word_of (pos n) = half + n
word_of (negsuc n) = half - n - 1

pub word_back : (w : ℕ) → word_of (long_at w) ≡ w
word_back w = go (leb half w) refl
  where
    go : (b : Bool) → leb half w ≡ b → word_of (cond b (pos (w - half)) (negsuc (half - w - 1))) ≡ w
    go true e = let h = leb-true half w e in omega (arith, h)
    go false e = let h = leb-false half w e in omega (arith, h)

abbrev pub flat : Entries → List ℕ
flat stop = []
flat (entry t n e) = t ∷ n ∷ flat e

abbrev pub back : Row → List ℕ
back (rbool b) = 10 ∷ bit b ∷ []
back (rlong z) = 11 ∷ word_of z / 4294967296 ∷ word_of z % 4294967296 ∷ []
back (rtext t) = 12 ∷ t ∷ []
back (rent k t) = 13 ∷ k ∷ t ∷ []
back (rset l) = 14 ∷ l
back (rrec e) = 15 ∷ flat e

flat_back : (l : List ℕ) → length l % 2 ≡ 0 → flat (entries_of l) ≡ l
flat_back [] e = refl
flat_back (t ∷ []) e = absurd (omega (arith, e))
flat_back (t ∷ n ∷ l) e = ap (λ k. t ∷ n ∷ k) (flat_back l (omega (arith, e)))

pub some_is : {A : Type 0} {a b : A} → some a ≡ some b → a ≡ b
some_is {a = a} {b = b} e = some-injective a b e

-- six tags
six : (P : ℕ → Type 0) → P 10 → P 11 → P 12 → P 13 → P 14 → P 15 → (t : ℕ) → 10 ≤ t → t ≤ 15 → P t
six P a b c d e f t lo hi = subst P (omega arith) (go (t - 10) (omega arith))
  where
    go : (n : ℕ) → n ≤ 5 → P (10 + n)
    go zero h = a
    go (suc zero) h = b
    go (suc (suc zero)) h = c
    go (suc (suc (suc zero))) h = d
    go (suc (suc (suc (suc zero)))) h = e
    go (suc (suc (suc (suc (suc zero))))) h = f
    go (suc (suc (suc (suc (suc (suc n)))))) h = absurd (omega arith)

unfoldable pub is_number : Slot → Bool
is_number entryˢ = false
is_number (line k) = false
is_number (line_or w k) = false
is_number (line_unknown k) = false
is_number (word ws) = false
is_number number = true
is_number day = false
is_number nothing = false

one_length : (o : Option ℕ) {k : List ℕ} → one o ≡ some k → length k ≡ 1
one_length none e = no_some e
one_length (some n) e = ap length (sym (some_is e))

pub item_length : (m : Mode) (s : Slot) (f : List ℕ) {k : List ℕ} → is_number s ≡ false → item m s f ≡ some k → length k ≡ 1
unfolding is_number
item_length m entryˢ f h e = one_length (word_number f (mode_word m ∷ [])) e
item_length m (line k) f h e = one_length (index f) e
item_length m (line_or w k) f h e = one_length (mark_or (same f (w ∷ [])) (index f)) e
item_length m (line_unknown k) f h e = one_length (mark_or (is_partial m && same f (ascii "?")) (index f)) e
item_length m (word ws) f h e = one_length (word_number f ws) e
item_length m number f h e = no_true (sym h)
item_length m day f h e = one_length (date f) e
item_length m nothing f h e = no_some e

pub items_length : (m : Mode) (t : ℕ) → ((j : ℕ) → is_number (slot_at t j) ≡ false) → (j : ℕ) (fs : List (List ℕ)) {l : List ℕ} → items_from m t j fs ≡ some l → length l ≡ length fs
items_length m t h j [] e = ap length (sym (some_is e))
items_length m t h j (f ∷ fs) {l} e = go (item m (slot_at t j) f) (items_from m t (suc j) fs) refl refl (λ k q. items_length m t h (suc j) fs q) e
  where
    go : (o p : Option (List ℕ)) → item m (slot_at t j) f ≡ o → items_from m t (suc j) fs ≡ p → ((k : List ℕ) → items_from m t (suc j) fs ≡ some k → length k ≡ length fs) → joined o p ≡ some l → length l ≡ suc (length fs)
    go none p a b ih q = no_some q
    go (some k) none a b ih q = no_some q
    go (some k) (some n) a b ih q = let x = item_length m (slot_at t j) f (h j) a in let y = ih n b in
        ap length (sym (some_is q)) ∙ length-append k n ∙ omega (arith, x, y)

record_slots : (j : ℕ) → is_number (slot_at 15 j) ≡ false
unfolding is_number slot_at form_of forms
record_slots j = go (ltb j 0) ((j - 0) % 2)
  where
    go : (b : Bool) (d : ℕ) → is_number (cond b (get_or [] j nothing) (get_or (line 1 ∷ line 5 ∷ []) d nothing)) ≡ false
    go true d = refl
    go false zero = refl
    go false (suc zero) = refl
    go false (suc (suc d)) = refl

record_even : (n : ℕ) → counted 15 n ≡ true → n % 2 ≡ 0
unfolding counted form_of forms
record_even n e = go (eqb n 0) refl e
  where
    rest : (p : Bool) → (p && true && eqb ((n - 0) % 2) 0) ≡ true → n % 2 ≡ 0
    rest true h = let z = eqb_true ((n - 0) % 2) 0 h in omega (arith, z)
    rest false h = no_true h

    go : (x : Bool) → eqb n 0 ≡ x → (x || (ltb 0 n && true && eqb ((n - 0) % 2) 0)) ≡ true → n % 2 ≡ 0
    go true p h = let z = eqb_true n 0 p in omega (arith, z)
    go false p h = rest (ltb 0 n) h

module _ (m : Mode) where
  Back : ℕ → Type 0
  Back t = (fs : List (List ℕ)) (l : List ℕ) → counted t (length fs) ≡ true → items_from m t 0 fs ≡ some l → back (value_row (t ∷ l)) ≡ t ∷ l

  bit_back : (p : ℕ) (l : List ℕ) → joined (one (cond (ltb p 2) (some p) none)) (some []) ≡ some l → back (value_row (10 ∷ l)) ≡ 10 ∷ l
  bit_back zero l e = subst (λ k. back (value_row (10 ∷ k)) ≡ 10 ∷ k) (some_is e) refl
  bit_back (suc zero) l e = subst (λ k. back (value_row (10 ∷ k)) ≡ 10 ∷ k) (some_is e) refl
  bit_back (suc (suc p)) l e = no_some (sym (ap (λ b. joined (one (cond b (some (suc (suc p))) none)) (some [])) (le-ltb (suc (suc p)) 2 (omega arith))) ∙ e)

  back10 : Back 10
  unfolding Back counted slot_at form_of forms
  back10 [] l c e = no_true c
  back10 (f ∷ []) l c e = bit_back (place_in f ("0" ∷ "1" ∷ [])) l e
  back10 (f ∷ g ∷ fs) l c e = let z : suc (suc (length fs)) ≡ 1 = counted_plain (form_of 10) (suc (suc (length fs))) refl c in absurd (omega (arith, z))

  long_back : (o : Option ℕ) (l : List ℕ) → joined (two o) (some []) ≡ some l → back (value_row (11 ∷ l)) ≡ 11 ∷ l
  long_back none l e = no_some e
  long_back (some w) l e = subst (λ k. back (value_row (11 ∷ k)) ≡ 11 ∷ k) (some_is e)
      (ap (λ z. 11 ∷ z / 4294967296 ∷ z % 4294967296 ∷ []) (word_back (w / 4294967296 * 4294967296 + w % 4294967296) ∙ omega arith))

  back11 : Back 11
  unfolding Back counted slot_at form_of forms
  back11 [] l c e = no_true c
  back11 (f ∷ []) l c e = long_back (long f) l e
  back11 (f ∷ g ∷ fs) l c e = let z : suc (suc (length fs)) ≡ 1 = counted_plain (form_of 11) (suc (suc (length fs))) refl c in absurd (omega (arith, z))

  text_back : (o : Option ℕ) (l : List ℕ) → joined (one o) (some []) ≡ some l → back (value_row (12 ∷ l)) ≡ 12 ∷ l
  text_back none l e = no_some e
  text_back (some x) l e = subst (λ k. back (value_row (12 ∷ k)) ≡ 12 ∷ k) (some_is e) refl

  back12 : Back 12
  unfolding Back counted slot_at form_of forms
  back12 [] l c e = no_true c
  back12 (f ∷ []) l c e = text_back (index f) l e
  back12 (f ∷ g ∷ fs) l c e = let z : suc (suc (length fs)) ≡ 1 = counted_plain (form_of 12) (suc (suc (length fs))) refl c in absurd (omega (arith, z))

  entity_back : (o p : Option ℕ) (l : List ℕ) → joined (one o) (joined (one p) (some [])) ≡ some l → back (value_row (13 ∷ l)) ≡ 13 ∷ l
  entity_back none p l e = no_some e
  entity_back (some x) none l e = no_some e
  entity_back (some x) (some y) l e = subst (λ k. back (value_row (13 ∷ k)) ≡ 13 ∷ k) (some_is e) refl

  back13 : Back 13
  unfolding Back counted slot_at form_of forms
  back13 [] l c e = no_true c
  back13 (f ∷ []) l c e = no_true c
  back13 (f ∷ g ∷ []) l c e = entity_back (index f) (index g) l e
  back13 (f ∷ g ∷ h ∷ fs) l c e = let z : suc (suc (suc (length fs))) ≡ 2 = counted_plain (form_of 13) (suc (suc (suc (length fs)))) refl c in absurd (omega (arith, z))

  back14 : Back 14
  unfolding Back
  back14 fs l c e = refl

  back15 : Back 15
  unfolding Back
  back15 fs l c e = let z = items_length m 15 record_slots 0 fs e in let y = record_even (length fs) c in ap (λ k. 15 ∷ k) (flat_back l (rw z y))

  value_tags : all_below (between 5 10 15) no_tag ≡ true
  unfolding form_of forms
  value_tags = refl

  pub value_back : (l r : List ℕ) → r ≡ row_of m l → key_of r ≡ VALUE → back (value_row r) ≡ r
  unfolding Back key_of form_of forms
  value_back l r e k = parsed m r (λ q. let z : no_key ≡ 5 = sym (ap key_of q) ∙ k in absurd (omega (arith, z)))
      (λ v q. let z : 1 ≡ 5 = sym (ap key_of q) ∙ k in absurd (omega (arith, z)))
      (λ t fs l c i q. let (lo, hi) = tags_between 5 10 15 t (omega arith) value_tags (sym (ap key_of q) ∙ k) in
      subst (λ z. back (value_row z) ≡ z) (sym q) (six Back back10 back11 back12 back13 back14 back15 t lo hi fs l c i))
      l e

-- ---- references and order

pub at_get_d : {A : Type 0} (l : List A) (n : ℕ) (d : A) → n < length l → At l n (get_or l n d)
at_get_d [] n d h = absurd (omega arith)
at_get_d (x ∷ l) zero d h = now
at_get_d (x ∷ l) (suc n) d h = later (at_get_d l n d (le_of_suc-le-suc h))

pub set_slots : (j : ℕ) → slot_at 14 j ≡ line 5
unfolding slot_at form_of forms
set_slots j = let d : (j - 0) % 1 ≡ 0 = omega arith in ap₂ (λ b d. cond b nothing (get_or (line 5 ∷ []) d nothing)) (le-ltb j 0 (omega arith)) d

pub field_slots : (i : ℕ) → slot_at 15 (suc (i + i)) ≡ line 5
unfolding slot_at form_of forms
field_slots i = let d : (suc (i + i) - 0) % 2 ≡ 1 = omega arith in ap₂ (λ b d. cond b nothing (get_or (line 1 ∷ line 5 ∷ []) d nothing)) (le-ltb (suc (i + i)) 0 (omega arith)) d

least_of : (x m : ℕ) (l : List ℕ) → x < m → ascend m l ≡ true → Least x l
least_of x m [] h e = end
least_of x m (y ∷ l) h e = and_both (leb m y) (ascend (suc y) l) e (λ p q. let z = leb-true m y p in less (omega (arith, z)) (least_of x (suc y) l (omega (arith, z)) q))

asc_of : (m : ℕ) (l : List ℕ) → ascend m l ≡ true → Asc l
asc_of m [] e = end
asc_of m (y ∷ l) e = and_both (leb m y) (ascend (suc y) l) e (λ p q. up (least_of y (suc y) l (omega arith) q) (asc_of (suc y) l q))

every_one : (l : List ℕ) → every_from 1 0 l ≡ l
every_one [] = refl
every_one (x ∷ l) = ap (λ k. x ∷ k) (every_one l)

module _ (s : State) (C : List Value) (size : length C ≡ count s VALUE) where
  value_there : (sl : Slot) (n : ℕ) → sl ≡ line 5 → there_is s sl n ≡ true → At C n (get_or C n (vbool false))
  value_there sl n e p = let z = ltb-true n (count s 5) (sym (ap (λ z. there_is s z n) e) ∙ p) in at_get_d C n (vbool false) (omega (arith, z, size))

  elems_of : (j : ℕ) (l : List ℕ) → all_there s 14 j l ≡ true → Elems C l (members_over C l)
  elems_of j [] e = elem0
  elems_of j (n ∷ l) e = and_both (there_is s (slot_at 14 j) n) (all_there s 14 (suc j) l) e (λ p q. elem1 (value_there (slot_at 14 j) n (set_slots j) p) (elems_of (suc j) l q))

  named_of : (i : ℕ) (l : List ℕ) → all_there s 15 (i + i) l ≡ true → Named C (entries_of l) (fields_over C (entries_of l))
  named_of i [] e = name0
  named_of i (t ∷ []) e = name0
  named_of i (t ∷ n ∷ l) e = and_both (there_is s (slot_at 15 (i + i)) t) (there_is s (slot_at 15 (suc (i + i))) n && all_there s 15 (suc (suc (i + i))) l) e (λ p q.
      and_both (there_is s (slot_at 15 (suc (i + i))) n) (all_there s 15 (suc (suc (i + i))) l) q (λ x y.
      name1 (value_there (slot_at 15 (suc (i + i))) n (field_slots i) x) (named_of (suc i) l (subst (λ z. all_there s 15 z l ≡ true) (omega arith) y))))

  set_denotes_row : (l : List ℕ) → found s 5 (14 ∷ l) ≡ true → Denotes C (rset l) (make_set (members_over C l))
  unfolding found ascendings form_of forms make_set
  set_denotes_row l e = and_both (all_there s 14 0 l && ascend 0 (every_from 1 0 l)) (fresh s 5 (14 ∷ l)) e (λ p q. and_both (all_there s 14 0 l) (ascend 0 (every_from 1 0 l)) p
      (λ a b. dset (asc_of 0 l (subst (λ z. ascend 0 z ≡ true) (every_one l) b)) (elems_of 0 l a) refl))

  record_denotes_row : (l : List ℕ) → found s 5 (15 ∷ l) ≡ true → Denotes C (rrec (entries_of l)) (value_over C (rrec (entries_of l)))
  unfolding found ascendings form_of forms
  record_denotes_row l e = and_both (all_there s 15 0 l && ascend 0 (ascendings (15 ∷ l))) (fresh s 5 (15 ∷ l)) e (λ p q. and_both (all_there s 15 0 l) (ascend 0 (ascendings (15 ∷ l))) p
      (λ a b. drec (named_of 0 l a)))

  -- a row stands for its content over the contents before
  denotes_row : (r : List ℕ) → found s VALUE r ≡ true → Denotes C (value_row r) (value_over C (value_row r))
  denotes_row [] e = dbool
  denotes_row (t ∷ l) e = go (t - 10) refl
    where
      go : (d : ℕ) → t - 10 ≡ d → Denotes C (get_or (rbool (eqb (at (t ∷ l) 0) 1) ∷ rlong (long_at (at (t ∷ l) 0 * 4294967296 + at (t ∷ l) 1)) ∷ rtext (at (t ∷ l) 0) ∷ rent (at (t ∷ l) 0) (at (t ∷ l) 1) ∷ rset l ∷ rrec (entries_of l) ∷ []) d (rbool false))
          (value_over C (get_or (rbool (eqb (at (t ∷ l) 0) 1) ∷ rlong (long_at (at (t ∷ l) 0 * 4294967296 + at (t ∷ l) 1)) ∷ rtext (at (t ∷ l) 0) ∷ rent (at (t ∷ l) 0) (at (t ∷ l) 1) ∷ rset l ∷ rrec (entries_of l) ∷ []) d (rbool false)))
      go zero q = dbool
      go (suc zero) q = dlong
      go (suc (suc zero)) q = dtext
      go (suc (suc (suc zero))) q = dent
      go (suc (suc (suc (suc zero)))) q = set_denotes_row l (subst (λ z. found s 5 (z ∷ l) ≡ true) (omega (arith, q)) e)
      go (suc (suc (suc (suc (suc zero))))) q = record_denotes_row l (subst (λ z. found s 5 (z ∷ l) ≡ true) (omega (arith, q)) e)
      go (suc (suc (suc (suc (suc (suc d)))))) q = dbool

-- ---- distinct

pub same_refl : (l : List ℕ) → same l l ≡ true
same_refl [] = refl
same_refl (x ∷ l) = rw (eq-eqb x x refl) (same_refl l)

abbrev Faithful : List (List ℕ) → Type 0
Faithful [] = Unit {0}
Faithful (r ∷ rs) = (back (value_row r) ≡ r) × Faithful rs

is_new : (r : List ℕ) → back (value_row r) ≡ r → (pre : List (List ℕ)) → Faithful pre → among r pre ≡ false → (n : ℕ) (q : Row) → q ≡ value_row r → At (rows_in pre) n q → ⊥
is_new r b [] f e n q p a = elim a [ ]
is_new r b (x ∷ pre) f e n q p now = no_true (sym (neither (same r x) (among r pre) e).0 ∙ ap (same r) (sym f.0 ∙ ap back p ∙ b) ∙ same_refl r)
is_new r b (x ∷ pre) f e n q p (later {n = k} a) = is_new r b pre f.1 (neither (same r x) (among r pre) e).1 k q p a

faithful_snoc : (pre : List (List ℕ)) (r : List ℕ) → Faithful pre → back (value_row r) ≡ r → Faithful (pre ++ (r ∷ []))
faithful_snoc [] r f b = (b, tt)
faithful_snoc (x ∷ pre) r f b = (f.0, faithful_snoc pre r f.1 b)

pub rows_snoc : (pre : List (List ℕ)) (r : List ℕ) → rows_in (pre ++ (r ∷ [])) ≡ rows_in pre ++ (value_row r ∷ [])
rows_snoc [] r = refl
rows_snoc (x ∷ pre) r = ap (λ k. value_row x ∷ k) (rows_snoc pre r)

pub rows_length : (pre : List (List ℕ)) → length (rows_in pre) ≡ length pre
rows_length [] = refl
rows_length (x ∷ pre) = ap suc (rows_length pre)

module _ (m : Mode) (s : State) (h : History m s) where
  -- one line more
  module _ (pre : List (List ℕ)) (r : List ℕ) (w : Was m s VALUE pre r) (f : Faithful pre) (C : List Value) (t : Table (rows_in pre) C) where
    row_back : back (value_row r) ≡ r
    row_back = value_back m w.line r w.row w.key

    not_among : among r pre ≡ false
    unfolding found
    not_among = and_both (all_there w.was (tag r) 0 (items r) && ascend 0 (ascendings r)) (fresh w.was VALUE r) w.pass.refers
        (λ p q. subst (λ z. among r z ≡ false) w.mine (not-true (among r (lines_of w.was VALUE)) q))

    table_more : Table (rows_in (pre ++ (r ∷ []))) (C ++ (value_over C (value_row r) ∷ []))
    table_more = subst (λ z. Table z (C ++ (value_over C (value_row r) ∷ []))) (sym (rows_snoc pre r))
        (grow t (denotes_row w.was C (sym (same_length t) ∙ rows_length pre ∙ ap length (sym w.mine)) r w.pass.refers) (λ n a. is_new r row_back pre f not_among n (value_row r) refl a))

  table_from : (pre rest : List (List ℕ)) (C : List Value) → lines_of s VALUE ≡ pre ++ rest → Faithful pre → Table (rows_in pre) C → Table (rows_in (pre ++ rest)) (values_from C (rows_in rest))
  table_from pre [] C e f t = subst (λ z. Table (rows_in z) C) (sym (append-nil pre)) t
  table_from pre (r ∷ rest) C e f t =
      let w = h VALUE pre r rest e in
      let q : pre ++ (r ∷ rest) ≡ (pre ++ (r ∷ [])) ++ rest = sym (append_assoc pre (r ∷ []) rest) in
      subst (λ z. Table (rows_in z) (values_from (C ++ (value_over C (value_row r) ∷ [])) (rows_in rest))) (sym q)
      (table_from (pre ++ (r ∷ [])) rest (C ++ (value_over C (value_row r) ∷ [])) (e ∙ q) (faithful_snoc pre r f (row_back pre r w f C t)) (table_more pre r w f C t))

  -- THE TABLE: distinct rows, each over those before, and their contents
  pub values_table : Table (value_rows s) (contents s)
  unfolding value_rows contents
  values_table = let z : Table (rows_in ([] ++ lines_of s VALUE)) (values_from [] (rows_in (lines_of s VALUE))) = table_from [] (lines_of s VALUE) [] refl tt start in z
