-- A printed row reads back: a made value's line as its row, a residual node's line as its row.
use mathlib.Core.Path.{◌≡◌, refl, sym, ◌∙◌, ap, ap₂, subst}
use mathlib.Core.Bool.{Bool, true, false, cond, ◌&&◌, ◌||◌}
use mathlib.Core.Option.{none, some}
use mathlib.Core.List.{List, [], ◌∷◌}
use Prim.Native.Nat.{ℕ, suc, ◌≤◌, ◌<◌, ◌+◌, ◌-◌, ◌*◌, ◌/◌, ◌%◌}
use Prim.Native.String.{String}
use native.Mathlib.Omega.{arith}
use native.Mathlib.Decide.{dec_lt}
use borrow.Author.Tests.{le-leb, lt-leb, lt-ltb, le-ltb, leb-true, ltb-true, eq-eqb, ne_eqb}
use lib.Dec.{leb, ltb, eqb}
use lib.IntN.{ℤ, pos, negsuc}
use lib.ListN.{length, get_or}
use Rattle.cedar.proofs.Tools.{no_true, eqb_true}
use Rattle.cedar.specs.Rows.{Entries, stop, entry, Row, rbool, rlong, rtext, rent, rset, rrec}
use Rattle.sheet.specs.Ascii.{ascii}
use Rattle.sheet.specs.Bytes.{same, index, long_at, half, digits, signed}
use Rattle.sheet.specs.Forms.{Mode, Slot, line, line_or, line_unknown, word, number, nothing, forms, form_of, slot_at, counted, mark, one, two, mark_or, place_in, word_number, item, joined, items_from, or_empty, row_for, row_of, tag_of, tag, items, key_of, VALUE, NODE, day}
use Rattle.sheet.specs.State.{entries_of, value_row}
use Rattle.sheet.specs.Answer.{numbers, entry_items, value_items, item_out, items_out, node_items}
use Rattle.sheet.proofs.reading.Lines.{and_both}
use Rattle.sheet.proofs.content.ValueRows.{word_of, flat, back, same_refl, set_slots, field_slots}
use Rattle.sheet.proofs.answer.DigitsBack.{plain_byte, plain_bytes, index_back, number_plain, not_mark, IsLong, long_back, signed_plain}
use Rattle.sheet.proofs.answer.LinesBack.{all_plain, unended, value_line_law, node_line_law}
use Rattle.sheet.specs.Forms as F

-- ---- an item that reads back: an index of four digits, a mark, a word

abbrev pub word_comes : List String → ℕ → Bool
word_comes ws x = (ltb x (length ws) && eqb (place_in (ascii (get_or ws x "")) ws) x) && plain_bytes (ascii (get_or ws x ""))

abbrev pub comes : Slot → ℕ → Bool
comes F.entry x = false
comes (line k) x = leb x 9999
comes (line_or b k) x = (ltb b 48 && plain_byte b) && (eqb x mark || leb x 9999)
comes (line_unknown k) x = false
comes (word ws) x = word_comes ws x
comes number x = false
comes day x = false
comes nothing x = false

index_comes : (x : ℕ) → leb x 9999 ≡ true → one (index (digits x)) ≡ some (x ∷ [])
index_comes x e = ap one (index_back x (leb-true x 9999 e))

index_plain : (x : ℕ) → leb x 9999 ≡ true → plain_bytes (digits x) ≡ true
index_plain x e = let h = leb-true x 9999 e in number_plain x (omega arith)

mark_back : (b x : ℕ) → ltb b 48 ≡ true → (eqb x mark || leb x 9999) ≡ true → one (mark_or (same (cond (eqb x mark) (b ∷ []) (digits x)) (b ∷ [])) (index (cond (eqb x mark) (b ∷ []) (digits x)))) ≡ some (x ∷ [])
mark_back b x h e = go (eqb x mark) refl e
  where
    go : (c : Bool) → eqb x mark ≡ c → (c || leb x 9999) ≡ true → one (mark_or (same (cond c (b ∷ []) (digits x)) (b ∷ [])) (index (cond c (b ∷ []) (digits x)))) ≡ some (x ∷ [])
    go true p q = ap (λ t. one (mark_or t (index (b ∷ [])))) (same_refl (b ∷ [])) ∙ ap (λ z. some (z ∷ [])) (sym (eqb_true x mark p))
    go false p q = let l = leb-true x 9999 q in ap (λ t. one (mark_or t (index (digits x)))) (not_mark x b (omega arith) (ltb-true b 48 h)) ∙ index_comes x q

word_back : (ws : List String) (x : ℕ) → word_comes ws x ≡ true → one (word_number (ascii (get_or ws x "")) ws) ≡ some (x ∷ [])
word_back ws x e = and_both (ltb x (length ws) && eqb (place_in (ascii (get_or ws x "")) ws) x) (plain_bytes (ascii (get_or ws x ""))) e (λ p q. and_both (ltb x (length ws)) (eqb (place_in (ascii (get_or ws x "")) ws) x) p (λ a b.
    ap (λ z. one (cond (ltb z (length ws)) (some z) none)) (eqb_true (place_in (ascii (get_or ws x "")) ws) x b) ∙ ap (λ t. one (cond t (some x) none)) a))

pub item_back : (m : Mode) (s : Slot) (x : ℕ) → comes s x ≡ true → item m s (item_out s x) ≡ some (x ∷ [])
item_back m F.entry x e = no_true e
item_back m (line k) x e = index_comes x e
item_back m (line_or b k) x e = and_both (ltb b 48 && plain_byte b) (eqb x mark || leb x 9999) e (λ p q. and_both (ltb b 48) (plain_byte b) p (λ c d. mark_back b x c q))
item_back m (line_unknown k) x e = no_true e
item_back m (word ws) x e = word_back ws x e
item_back m number x e = no_true e
item_back m day x e = no_true e
item_back m nothing x e = no_true e

mark_plain : (b x : ℕ) → plain_byte b ≡ true → (c : Bool) → (c || leb x 9999) ≡ true → plain_bytes (cond c (b ∷ []) (digits x)) ≡ true
mark_plain b x h true e = rw h
mark_plain b x h false e = index_plain x e

item_plain : (s : Slot) (x : ℕ) → comes s x ≡ true → plain_bytes (item_out s x) ≡ true
item_plain F.entry x e = no_true e
item_plain (line k) x e = index_plain x e
item_plain (line_or b k) x e = and_both (ltb b 48 && plain_byte b) (eqb x mark || leb x 9999) e (λ p q. and_both (ltb b 48) (plain_byte b) p (λ c d. mark_plain b x d (eqb x mark) q))
item_plain (line_unknown k) x e = no_true e
item_plain (word ws) x e = and_both (ltb x (length ws) && eqb (place_in (ascii (get_or ws x "")) ws) x) (plain_bytes (ascii (get_or ws x ""))) e (λ p q. q)
item_plain number x e = no_true e
item_plain day x e = no_true e
item_plain nothing x e = no_true e

abbrev pub all_come : ℕ → ℕ → List ℕ → Bool
all_come t j [] = true
all_come t j (x ∷ l) = comes (slot_at t j) x && all_come t (suc j) l

items_come : (m : Mode) (t j : ℕ) (l : List ℕ) → all_come t j l ≡ true → items_from m t j (items_out t j l) ≡ some l
items_come m t j [] e = refl
items_come m t j (x ∷ l) e = and_both (comes (slot_at t j) x) (all_come t (suc j) l) e (λ p q. ap₂ joined (item_back m (slot_at t j) x p) (items_come m t (suc j) l q))

items_plain : (t j : ℕ) (l : List ℕ) → all_come t j l ≡ true → all_plain (items_out t j l) ≡ true
items_plain t j [] e = refl
items_plain t j (x ∷ l) e = and_both (comes (slot_at t j) x) (all_come t (suc j) l) e (λ p q. rw (item_plain (slot_at t j) x p) (items_plain t (suc j) l q))

items_count : (t j : ℕ) (l : List ℕ) → length (items_out t j l) ≡ length l
items_count t j [] = refl
items_count t j (x ∷ l) = ap suc (items_count t (suc j) l)

-- ---- nodes

abbrev is_type : Slot → Bool
is_type F.entry = false
is_type (line k) = eqb k 3
is_type (line_or b k) = false
is_type (line_unknown k) = false
is_type (word ws) = false
is_type number = false
is_type day = false
is_type nothing = false

is_type_law : (s : Slot) → is_type s ≡ true → s ≡ line 3
is_type_law F.entry e = no_true e
is_type_law (line k) e = ap line (eqb_true k 3 e)
is_type_law (line_or b k) e = no_true e
is_type_law (line_unknown k) e = no_true e
is_type_law (word ws) e = no_true e
is_type_law number e = no_true e
is_type_law day e = no_true e
is_type_law nothing e = no_true e

-- a tag that is found again by its name, with a type in front
abbrev pub node_tag : ℕ → Bool
node_tag t = ((eqb (tag_of NODE (ascii (form_of t).name)) t && eqb (form_of t).key NODE) && plain_bytes (ascii (form_of t).name)) && is_type (slot_at t 0)

-- a row whose line reads back
abbrev pub good_row : List ℕ → Bool
good_row [] = false
good_row (t ∷ []) = false
good_row (t ∷ y ∷ l) = node_tag t && counted t (suc (length l)) && all_come t 0 (y ∷ l)

module _ (t y : ℕ) (l : List ℕ) where
  pub good_parts : {X : Type 0} → good_row (t ∷ y ∷ l) ≡ true
      → (tag_of NODE (ascii (form_of t).name) ≡ t → (form_of t).key ≡ NODE → plain_bytes (ascii (form_of t).name) ≡ true → slot_at t 0 ≡ line 3 → counted t (suc (length l)) ≡ true → all_come t 0 (y ∷ l) ≡ true → X) → X
  good_parts e f = and_both (node_tag t && counted t (suc (length l))) (all_come t 0 (y ∷ l)) e (λ e a. and_both (node_tag t) (counted t (suc (length l))) e (λ e b.
      and_both ((eqb (tag_of NODE (ascii (form_of t).name)) t && eqb (form_of t).key NODE) && plain_bytes (ascii (form_of t).name)) (is_type (slot_at t 0)) e (λ e c.
      and_both (eqb (tag_of NODE (ascii (form_of t).name)) t && eqb (form_of t).key NODE) (plain_bytes (ascii (form_of t).name)) e (λ e d.
      and_both (eqb (tag_of NODE (ascii (form_of t).name)) t) (eqb (form_of t).key NODE) e (λ g h.
      f (eqb_true (tag_of NODE (ascii (form_of t).name)) t g) (eqb_true (form_of t).key NODE h) d (is_type_law (slot_at t 0) c) b a)))))

  first_out : slot_at t 0 ≡ line 3 → digits y ∷ items_out t 1 l ≡ items_out t 0 (y ∷ l)
  first_out e = ap (λ s. item_out s y ∷ items_out t 1 l) (sym e)

  pub node_items_plain : good_row (t ∷ y ∷ l) ≡ true → all_plain (node_items (t ∷ y ∷ l)) ≡ true
  node_items_plain e = good_parts e (λ a k b s c d. and_both (plain_bytes (digits y)) (all_plain (items_out t 1 l)) (subst (λ z. all_plain z ≡ true) (sym (first_out s)) (items_plain t 0 (y ∷ l) d)) (λ p q. rw (p, b) q))

  pub node_row_back : (m : Mode) → good_row (t ∷ y ∷ l) ≡ true → row_of m (unended "node" (node_items (t ∷ y ∷ l))) ≡ t ∷ y ∷ l
  node_row_back m e = good_parts e (λ a k b s c d.
      node_line_law m (digits y) (ascii (form_of t).name ∷ items_out t 1 l) (node_items_plain e)
      ∙ ap (λ z. row_for m z (digits y ∷ items_out t 1 l)) a
      ∙ ap (row_for m t) (first_out s)
      ∙ ap (λ n. cond (counted t n) (or_empty t (items_from m t 0 (items_out t 0 (y ∷ l)))) []) (items_count t 0 (y ∷ l))
      ∙ ap₂ (λ b o. cond b (or_empty t o) []) c (items_come m t 0 (y ∷ l) d))

pub good_row_law : {X : Type 0} (r : List ℕ) → good_row r ≡ true → ((t y : ℕ) (l : List ℕ) → r ≡ t ∷ y ∷ l → good_row (t ∷ y ∷ l) ≡ true → X) → X
good_row_law [] e f = no_true e
good_row_law (t ∷ []) e f = no_true e
good_row_law (t ∷ y ∷ l) e f = f t y l refl e

-- A NODE'S LINE READS BACK AS ITS ROW
pub node_back : (m : Mode) (r : List ℕ) → good_row r ≡ true → row_of m (unended "node" (node_items r)) ≡ r
node_back m r e = good_row_law r e (λ t y l q g. subst (λ r. row_of m (unended "node" (node_items r)) ≡ r) (sym q) (node_row_back t y l m g))

pub node_plain : (r : List ℕ) → good_row r ≡ true → all_plain (node_items r) ≡ true
node_plain r e = good_row_law r e (λ t y l q g. subst (λ r. all_plain (node_items r) ≡ true) (sym q) (node_items_plain t y l g))

pub node_key : (r : List ℕ) → good_row r ≡ true → key_of r ≡ NODE
unfolding key_of
node_key r e = good_row_law r e (λ t y l q g. subst (λ r. key_of r ≡ NODE) (sym q) (good_parts t y l g (λ a k b s c d. k)))

-- ---- values

abbrev pub AllSmall : List ℕ → Type 0
AllSmall [] = Unit {0}
AllSmall (n ∷ l) = (n ≤ 9999) × AllSmall l

abbrev pub SmallEntries : Entries → Type 0
SmallEntries stop = Unit {0}
SmallEntries (entry t n e) = (t ≤ 9999) × (n ≤ 9999) × SmallEntries e

-- a row whose line reads back
abbrev pub GoodValue : Row → Type 0
GoodValue (rbool b) = Unit {0}
GoodValue (rlong z) = IsLong z
GoodValue (rtext t) = t ≤ 9999
GoodValue (rent k t) = (k ≤ 9999) × (t ≤ 9999)
GoodValue (rset l) = AllSmall l
GoodValue (rrec e) = SmallEntries e

-- how many items a form with a group may have
pub counted_groups : (i n g : ℕ) → i ≤ n → 0 < g → (n - i) % g ≡ 0 → (eqb n i || (ltb i n && ltb 0 g && eqb ((n - i) % g) 0)) ≡ true
counted_groups i n g h p q = go (dec_lt i n)
  where
    go : Dec (i < n) → (eqb n i || (ltb i n && ltb 0 g && eqb ((n - i) % g) 0)) ≡ true
    go (yes d) = rw (ne_eqb n i (λ z. omega (arith, z)), lt-ltb i n d, lt-ltb 0 g p, eq-eqb ((n - i) % g) 0 q)
    go (no d) = rw (eq-eqb n i (omega arith))

set_counted : (n : ℕ) → counted 14 n ≡ true
unfolding counted form_of forms
set_counted n = counted_groups 0 n 1 (omega arith) (omega arith) (omega arith)

record_counted : (n : ℕ) → counted 15 (n + n) ≡ true
unfolding counted form_of forms
record_counted n = counted_groups 0 (n + n) 2 (omega arith) (omega arith) (omega arith)

text_slot : (i : ℕ) → slot_at 15 (i + i) ≡ line 1
unfolding slot_at form_of forms
text_slot i = let d : (i + i - 0) % 2 ≡ 0 = omega arith in ap₂ (λ b d. cond b nothing (get_or (line 1 ∷ line 5 ∷ []) d nothing)) (le-ltb (i + i) 0 (omega arith)) d

index_item : (m : Mode) (s : Slot) (k n : ℕ) → s ≡ line k → n ≤ 9999 → item m s (digits n) ≡ some (n ∷ [])
index_item m s k n e h = ap (λ s. item m s (digits n)) e ∙ ap one (index_back n h)

members_back : (m : Mode) (j : ℕ) (l : List ℕ) → AllSmall l → items_from m 14 j (numbers l) ≡ some l
members_back m j [] h = refl
members_back m j (n ∷ l) h = ap₂ joined (index_item m (slot_at 14 j) 5 n (set_slots j) h.0) (members_back m (suc j) l h.1)

fields_back : (m : Mode) (i : ℕ) (e : Entries) → SmallEntries e → items_from m 15 (i + i) (entry_items e) ≡ some (flat e)
fields_back m i stop h = refl
fields_back m i (entry t n e) h = ap₂ joined (index_item m (slot_at 15 (i + i)) 1 t (text_slot i) h.0)
    (ap₂ joined (index_item m (slot_at 15 (suc (i + i))) 5 n (field_slots i) h.1) (ap (λ j. items_from m 15 j (entry_items e)) (omega arith) ∙ fields_back m (suc i) e h.2))

numbers_count : (l : List ℕ) → length (numbers l) ≡ length l
numbers_count [] = refl
numbers_count (n ∷ l) = ap suc (numbers_count l)

abbrev size : Entries → ℕ
size stop = 0
size (entry t n e) = suc (size e)

entries_count : (e : Entries) → length (entry_items e) ≡ size e + size e
entries_count stop = refl
entries_count (entry t n e) = let z = entries_count e in omega (arith, z)

pub small_plain : (n : ℕ) → n ≤ 9999 → plain_bytes (digits n) ≡ true
small_plain n h = number_plain n (omega arith)

pub numbers_plain : (l : List ℕ) → AllSmall l → all_plain (numbers l) ≡ true
numbers_plain [] h = refl
numbers_plain (n ∷ l) h = rw (small_plain n h.0) (numbers_plain l h.1)

entries_plain : (e : Entries) → SmallEntries e → all_plain (entry_items e) ≡ true
entries_plain stop h = refl
entries_plain (entry t n e) h = rw (small_plain t h.0, small_plain n h.1) (entries_plain e h.2)

pub value_plain : (r : Row) → GoodValue r → all_plain (value_items r) ≡ true
value_plain (rbool true) h = refl
value_plain (rbool false) h = refl
value_plain (rlong z) h = rw (signed_plain z h)
value_plain (rtext t) h = rw (small_plain t h)
value_plain (rent k t) h = rw (small_plain k h.0, small_plain t h.1)
value_plain (rset l) h = numbers_plain l h
value_plain (rrec e) h = entries_plain e h

-- A VALUE'S LINE READS BACK AS ITS ROW
pub value_row_back : (m : Mode) (r : Row) → GoodValue r → row_of m (unended "value" (value_items r)) ≡ back r
unfolding tag_of counted slot_at form_of forms
value_row_back m (rbool true) h = value_line_law m (ascii "bool") (digits 1 ∷ []) refl
value_row_back m (rbool false) h = value_line_law m (ascii "bool") (digits 0 ∷ []) refl
value_row_back m (rlong z) h = value_line_law m (ascii "long") (signed z ∷ []) (value_plain (rlong z) h) ∙ ap (λ o. or_empty 11 (joined (two o) (some []))) (long_back z h)
value_row_back m (rtext t) h = value_line_law m (ascii "text") (digits t ∷ []) (value_plain (rtext t) h) ∙ ap (λ o. or_empty 12 (joined (one o) (some []))) (index_back t h)
value_row_back m (rent k t) h = value_line_law m (ascii "entity") (digits k ∷ digits t ∷ []) (value_plain (rent k t) h) ∙ ap₂ (λ o p. or_empty 13 (joined (one o) (joined (one p) (some [])))) (index_back k h.0) (index_back t h.1)
value_row_back m (rset l) h = value_line_law m (ascii "set") (numbers l) (value_plain (rset l) h) ∙ ap₂ (λ b o. cond b (or_empty 14 o) []) (set_counted (length (numbers l))) (members_back m 0 l h)
value_row_back m (rrec e) h = value_line_law m (ascii "record") (entry_items e) (value_plain (rrec e) h)
    ∙ ap₂ (λ b o. cond b (or_empty 15 o) []) (ap (counted 15) (entries_count e) ∙ record_counted (size e)) (fields_back m 0 e h)

long_at_law : (z : ℤ) → IsLong z → long_at (word_of z) ≡ z
long_at_law (pos n) h = ap (λ b. cond b (pos (half + n - half)) (negsuc (half - (half + n) - 1))) (le-leb half (half + n) (omega arith)) ∙ ap pos (omega arith)
long_at_law (negsuc n) h = ap (λ b. cond b (pos (half - n - 1 - half)) (negsuc (half - (half - n - 1) - 1))) (lt-leb half (half - n - 1) (omega arith)) ∙ ap negsuc (omega arith)

entries_flat : (e : Entries) → entries_of (flat e) ≡ e
entries_flat stop = refl
entries_flat (entry t n e) = ap (entry t n) (entries_flat e)

pub row_back : (r : Row) → GoodValue r → value_row (back r) ≡ r
row_back (rbool true) h = refl
row_back (rbool false) h = refl
row_back (rlong z) h = let e : word_of z / 4294967296 * 4294967296 + word_of z % 4294967296 ≡ word_of z = omega arith in ap rlong (ap long_at e ∙ long_at_law z h)
row_back (rtext t) h = refl
row_back (rent k t) h = refl
row_back (rset l) h = refl
row_back (rrec e) h = ap rrec (entries_flat e)

pub value_key : (r : Row) → key_of (back r) ≡ VALUE
unfolding key_of form_of forms
value_key (rbool b) = refl
value_key (rlong z) = refl
value_key (rtext t) = refl
value_key (rent k t) = refl
value_key (rset l) = refl
value_key (rrec e) = refl
