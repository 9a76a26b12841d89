-- What lines take of a sheet's bytes: the items that may follow in a node line without end, those of `like` and `haspath`, and a policy's line. Printed, such items take
-- no more bytes than they did in the sheet.
use mathlib.Core.Path.{◌≡◌, refl, sym, ◌∙◌, ap, subst}
use mathlib.Core.Bool.{Bool, true, false, cond, ◌&&◌, ◌||◌}
use mathlib.Core.Option.{Option, none, some}
use mathlib.Core.List.{List, [], ◌∷◌, ◌++◌}
use Prim.Native.Nat.{ℕ, zero, suc, ◌<◌, ◌≤◌, ◌+◌, ◌-◌, ◌*◌, ◌/◌, ◌%◌}
use Prim.Native.String.{String}
use native.Mathlib.Nat.{le_of_suc-le-suc}
use native.Mathlib.Omega.{arith}
use native.Mathlib.Decide.{dec_lt}
use borrow.Author.Tests.{eq-eqb, ne_eqb, leb-true, ltb-true, lt-ltb, le-ltb}
use lib.Dec.{leb, ltb, eqb}
use lib.ListN.{length, get_or, take, drop, length-append, length-take, length-drop}
use Rattle.cedar.proofs.Tools.{no_some, no_true, eqb_true, and_left, and_right}
use Rattle.sheet.specs.Ascii.{ascii}
use Rattle.sheet.specs.Bytes.{up_to, ahead, split, same, printable, is_digit, digits_from, decimal, at_most, digits_by, digits}
use Rattle.sheet.specs.Forms.{Mode, Slot, line, line_or, line_unknown, word, number, day, nothing, Form, forms, form_of, no_form, slot_at, counted, word_number, item, items_from, joined, one, mark_or, mark, tag, items, row_of, or_empty, row_headed, row_of_text, row_of_value, heading, name_first, name_second, headed, form_in, tag_of, key_of, place_in, keys, TEXT, TYPE, VALUE, NODE, POLICY}
use Rattle.sheet.specs.Forms as F
use Rattle.sheet.specs.State.{State, empty, lines_of, count}
use Rattle.sheet.specs.Sheet.{fault, more, Reading, reads, ending, go_on, line_read, reading, read}
use Rattle.sheet.proofs.reading.Refusals.{line_then}
use Rattle.sheet.specs.Answer.{item_out, items_out}
use Rattle.sheet.proofs.reading.Lines.{ended, zero_not_suc, lines_more}
use Rattle.sheet.proofs.reading.Parsed.{policy_tag, counted_plain, tags_between, policy_tags}
use Rattle.sheet.proofs.content.ValueRows.{some_is}
use Rattle.sheet.proofs.reading.Slots.{like_slot, path_slot}

-- ---- numbers: printed, one has no more digits than where it was read

-- b times 10 for each of n digits
abbrev pub scale : ℕ → ℕ → ℕ
scale b zero = b
scale b (suc n) = scale (10 * b) n

scale_ten : (b n : ℕ) → scale (10 * b) n ≡ 10 * scale b n
scale_ten b zero = refl
scale_ten b (suc n) = scale_ten (10 * b) n

pub digits_short : (f k n : ℕ) → n < scale 10 k → length (digits_by f n) ≤ suc k
digits_short zero k n h = omega arith
digits_short (suc f) zero n h = rw (lt-ltb n 10 h) (omega arith)
digits_short (suc f) (suc k) n h = go (dec_lt n 10) (λ lt. digits_short f k (n / 10) lt)
  where
    go : Dec (n < 10) → (n / 10 < scale 10 k → length (digits_by f (n / 10)) ≤ suc k) → length (digits_by (suc f) n) ≤ suc (suc k)
    go (yes d) ih = rw (lt-ltb n 10 d) (omega arith)
    go (no d) ih = let z = scale_ten 10 k in let y = ih (omega (arith, z, h)) in let x = length-append (digits_by f (n / 10)) ((48 + n % 10) ∷ []) in rw (le-ltb n 10 (omega arith)) (omega (arith, x, y))

digits_under : (a b : ℕ) (f : List ℕ) (x : ℕ) → a < b → digits_from a f ≡ some x → x < scale b (length f)
digits_under a b [] x h e = let z = some_is e in omega (arith, z, h)
digits_under a b (y ∷ f) x h e = go (is_digit y) refl (λ lt. digits_under (a * 10 + (y - 48)) (10 * b) f x lt) e
  where
    go : (t : Bool) → is_digit y ≡ t → (a * 10 + (y - 48) < 10 * b → digits_from (a * 10 + (y - 48)) f ≡ some x → x < scale (10 * b) (length f)) → cond t (digits_from (a * 10 + (y - 48)) f) none ≡ some x → x < scale (10 * b) (length f)
    go true q ih e = let z = leb-true y 57 (and_right (leb 48 y) (leb y 57) q) in ih (omega (arith, z, h)) e
    go false q ih e = no_some e

decimal_bytes : (f : List ℕ) (x : ℕ) → decimal f ≡ some x → length (digits x) ≤ length f
decimal_bytes [] x e = no_some e
decimal_bytes (y ∷ []) x e = digits_short 19 0 x (digits_under 0 1 (y ∷ []) x (omega arith) e)
decimal_bytes (y ∷ z ∷ f) x e = go (eqb y 48) e
  where
    go : (t : Bool) → cond t none (digits_from 0 (y ∷ z ∷ f)) ≡ some x → length (digits x) ≤ suc (suc (length f))
    go true e = no_some e
    go false e = digits_short 19 (suc (length f)) x (digits_under 0 1 (y ∷ z ∷ f) x (omega arith) e)

-- ---- items

-- the bytes of items with one more for each
abbrev pub weigh : List (List ℕ) → ℕ
weigh [] = 0
weigh (x ∷ l) = length x + 1 + weigh l

-- the number of a line, or a mark that is printed as it was read
abbrev is_index : Slot → Bool
is_index F.entry = false
is_index (line k) = true
is_index (line_or b k) = true
is_index (line_unknown k) = false
is_index (word ws) = false
is_index number = false
is_index day = false
is_index nothing = false

single : {X : Type 0} (o : Option ℕ) {k : List ℕ} → one o ≡ some k → ((x : ℕ) → o ≡ some x → k ≡ x ∷ [] → X) → X
single none e f = no_some e
single (some x) e f = f x refl (sym (some_is e))

index_is : (o : Option ℕ) (x : ℕ) → at_most 9999 o ≡ some x → (o ≡ some x) × (x ≤ 9999)
index_is none x e = no_some e
index_is (some n) x e = go (leb n 9999) refl e
  where
    go : (b : Bool) → leb n 9999 ≡ b → cond b (some n) none ≡ some x → (some n ≡ some x) × (x ≤ 9999)
    go true q e = let z = some_is e in (e, subst (λ i. i ≤ 9999) z (leb-true n 9999 q))
    go false q e = no_some e

item_bytes : {X : Type 0} (m : Mode) (sl : Slot) (f k : List ℕ) → is_index sl ≡ true → item m sl f ≡ some k → ((x : ℕ) → k ≡ x ∷ [] → length (item_out sl x) ≤ length f → X) → X
item_bytes m F.entry f k i e c = no_true i
item_bytes m (line n) f k i e c = single (at_most 9999 (decimal f)) e (λ x q z. c x z (decimal_bytes f x (index_is (decimal f) x q).0))
item_bytes m (line_or b n) f k i e c = single (mark_or (same f (b ∷ [])) (at_most 9999 (decimal f))) e (λ x q z. c x z (go x (same f (b ∷ [])) refl q))
  where
    one_byte : (f : List ℕ) → same f (b ∷ []) ≡ true → 1 ≤ length f
    one_byte [] e = no_true e
    one_byte (y ∷ f) e = omega arith

    go : (x : ℕ) (t : Bool) → same f (b ∷ []) ≡ t → mark_or t (at_most 9999 (decimal f)) ≡ some x → length (cond (eqb x mark) (b ∷ []) (digits x)) ≤ length f
    go x true s q = rw (eq-eqb x mark (sym (some_is q))) (one_byte f s)
    go x false s q = let (a, h) = index_is (decimal f) x q in rw (ne_eqb x mark (λ z. absurd (omega (arith, z, h)))) (decimal_bytes f x a)
item_bytes m (line_unknown n) f k i e c = no_true i
item_bytes m (word ws) f k i e c = no_true i
item_bytes m number f k i e c = no_true i
item_bytes m day f k i e c = no_true i
item_bytes m nothing f k i e c = no_true i

items_bytes : (m : Mode) (t : ℕ) → ((j : ℕ) → is_index (slot_at t j) ≡ true) → (j : ℕ) (fs : List (List ℕ)) (l : List ℕ) → items_from m t j fs ≡ some l → weigh (items_out t j l) ≤ weigh fs
items_bytes m t i j [] l e = subst (λ z. weigh (items_out t j z) ≤ 0) (some_is e) (omega arith)
items_bytes m t i j (f ∷ fs) l e = go (item m (slot_at t j) f) (items_from m t (suc j) fs) refl (λ n q. items_bytes m t i (suc j) fs n q) refl e
  where
    go : (o p : Option (List ℕ)) → item m (slot_at t j) f ≡ o → ((n : List ℕ) → items_from m t (suc j) fs ≡ some n → weigh (items_out t (suc j) n) ≤ weigh fs) → items_from m t (suc j) fs ≡ p → joined o p ≡ some l → weigh (items_out t j l) ≤ length f + 1 + weigh fs
    go none p a ih b q = no_some q
    go (some k) none a ih b q = no_some q
    go (some k) (some n) a ih b q = item_bytes m (slot_at t j) f k (i j) a (λ x z h.
        let y = ih n b in subst (λ r. weigh (items_out t j r) ≤ length f + 1 + weigh fs) (sym (ap (λ v. v ++ n) z) ∙ some_is q) (omega (arith, h, y)))

-- ---- rows: the tags of `like` and `haspath`

abbrev pub like_tag : ℕ
like_tag = 40

abbrev pub path_tag : ℕ
path_tag = 43

abbrev long : ℕ → Bool
long t = eqb t like_tag || eqb t path_tag

like_places : (j : ℕ) → is_index (slot_at like_tag j) ≡ true
unfolding slot_at form_of forms
like_places zero = refl
like_places (suc zero) = refl
like_places (suc (suc j)) = ap is_index (like_slot j)

path_places : (j : ℕ) → is_index (slot_at path_tag j) ≡ true
unfolding slot_at form_of forms
path_places zero = refl
path_places (suc zero) = refl
path_places (suc (suc zero)) = refl
path_places (suc (suc (suc j))) = ap is_index (path_slot j)

long_places : (t : ℕ) → long t ≡ true → (j : ℕ) → is_index (slot_at t j) ≡ true
long_places t e j = go (eqb t like_tag) (eqb t path_tag) refl refl e
  where
    go : (x y : Bool) → eqb t like_tag ≡ x → eqb t path_tag ≡ y → (x || y) ≡ true → is_index (slot_at t j) ≡ true
    go true y a b e = ap (λ z. is_index (slot_at z j)) (eqb_true t like_tag a) ∙ like_places j
    go false true a b e = ap (λ z. is_index (slot_at z j)) (eqb_true t path_tag b) ∙ path_places j
    go false false a b e = no_true e

-- the bytes of such a row's items
unfoldable pub row_bytes : List ℕ → ℕ
row_bytes r = cond (long (tag r)) (weigh (items_out (tag r) 0 (items r))) 0

abbrev pub all_bytes : List (List ℕ) → ℕ
all_bytes [] = 0
all_bytes (r ∷ rs) = row_bytes r + all_bytes rs

pub all_snoc : (rs : List (List ℕ)) (r : List ℕ) → all_bytes (rs ++ (r ∷ [])) ≡ all_bytes rs + row_bytes r
all_snoc [] r = omega arith
all_snoc (x ∷ rs) r = let a = all_snoc rs r in omega (arith, a)

-- ---- lines

ahead_weigh : (x : ℕ) (ps : List (List ℕ)) → 1 ≤ length ps → weigh (ahead x ps) ≡ suc (weigh ps)
ahead_weigh x [] h = absurd (omega arith)
ahead_weigh x (p ∷ ps) h = omega arith

split_some : (c : ℕ) (l : List ℕ) → 1 ≤ length (split c l)
split_some c [] = omega arith
split_some c (x ∷ l) = go (eqb x c) (split c l)
  where
    some_ahead : (ps : List (List ℕ)) → 1 ≤ length (ahead x ps)
    some_ahead [] = omega arith
    some_ahead (p ∷ ps) = omega arith

    go : (b : Bool) (ps : List (List ℕ)) → 1 ≤ length (cond b ([] ∷ ps) (ahead x ps))
    go true ps = omega arith
    go false ps = some_ahead ps

split_weigh : (c : ℕ) (l : List ℕ) → weigh (split c l) ≡ suc (length l)
split_weigh c [] = refl
split_weigh c (x ∷ l) = go (eqb x c) (split_weigh c l)
  where
    go : (b : Bool) → weigh (split c l) ≡ suc (length l) → weigh (cond b ([] ∷ split c l) (ahead x (split c l))) ≡ suc (suc (length l))
    go true h = omega (arith, h)
    go false h = let a = ahead_weigh x (split c l) (split_some c l) in omega (arith, a, h)

second_weigh : (fs : List (List ℕ)) → weigh (name_second fs).items ≤ weigh fs
second_weigh [] = omega arith
second_weigh (f ∷ []) = omega arith
second_weigh (f ∷ w ∷ fs) = omega arith

first_weigh : (fs : List (List ℕ)) → weigh (name_first fs).items ≤ weigh fs
first_weigh [] = omega arith
first_weigh (f ∷ fs) = omega arith

heading_weigh : (k : ℕ) (fs : List (List ℕ)) → weigh (heading k fs).items ≤ weigh fs
heading_weigh k fs = go (eqb k NODE) (eqb k TYPE || eqb k VALUE)
  where
    go : (x y : Bool) → weigh (cond x (name_second fs) (cond y (name_first fs) (headed [] fs))).items ≤ weigh fs
    go true y = second_weigh fs
    go false true = first_weigh fs
    go false false = omega arith

-- a word of a list, and a form's key

same_length : (k l : List ℕ) → same k l ≡ true → length k ≡ length l
same_length [] [] e = refl
same_length [] (y ∷ l) e = no_true e
same_length (x ∷ k) [] e = no_true e
same_length (x ∷ k) (y ∷ l) e = ap suc (same_length k l (and_right (eqb x y) (same k l) e))

place_length : (w : List ℕ) (ws : List String) (n : ℕ) → place_in w ws ≡ n → n < length ws → length w ≡ length (ascii (get_or ws n ""))
place_length w [] n e h = absurd (omega arith)
place_length w (x ∷ ws) n e h = go (same w (ascii x)) refl n e h (λ i q l. place_length w ws i q l)
  where
    go : (b : Bool) → same w (ascii x) ≡ b → (n : ℕ) → cond b 0 (suc (place_in w ws)) ≡ n → n < suc (length ws)
        → ((i : ℕ) → place_in w ws ≡ i → i < length ws → length w ≡ length (ascii (get_or ws i ""))) → length w ≡ length (ascii (get_or (x ∷ ws) n ""))
    go true s zero e h ih = same_length w (ascii x) s
    go true s (suc n) e h ih = absurd (omega (arith, e))
    go false s zero e h ih = absurd (omega (arith, e))
    go false s (suc n) e h ih = ih n (omega (arith, e)) (le_of_suc-le-suc h)

form_key : (k : ℕ) (w : List ℕ) (fs : List Form) (n : ℕ) → form_in k w fs ≡ n → n < length fs → (get_or fs n no_form).key ≡ k
form_key k w [] n e h = absurd (omega arith)
form_key k w (f ∷ fs) n e h = go (eqb k f.key && same w (ascii f.name)) refl n e h (λ i q l. form_key k w fs i q l)
  where
    go : (b : Bool) → (eqb k f.key && same w (ascii f.name)) ≡ b → (n : ℕ) → cond b 0 (suc (form_in k w fs)) ≡ n → n < suc (length fs)
        → ((i : ℕ) → form_in k w fs ≡ i → i < length fs → (get_or fs i no_form).key ≡ k) → (get_or (f ∷ fs) n no_form).key ≡ k
    go true s zero e h ih = sym (eqb_true k f.key (and_left (eqb k f.key) (same w (ascii f.name)) s))
    go true s (suc n) e h ih = absurd (omega (arith, e))
    go false s zero e h ih = absurd (omega (arith, e))
    go false s (suc n) e h ih = ih n (omega (arith, e)) (le_of_suc-le-suc h)

policy_key : (k : ℕ) (w : List ℕ) → tag_of k w ≡ policy_tag → k ≡ POLICY
unfolding tag_of forms
policy_key k w e = sym (form_key k w forms policy_tag e (omega arith))

-- ---- a policy's line: 18 bytes at least, with its end

abbrev pub policy_line : ℕ
policy_line = 18

some_byte : (f k : List ℕ) → one (at_most 9999 (decimal f)) ≡ some k → 1 ≤ length f
some_byte [] k e = no_some e
some_byte (x ∷ f) k e = omega arith

abbrev effects : List String
effects = "permit" ∷ "forbid" ∷ []

word_bytes : (f k : List ℕ) → one (word_number f effects) ≡ some k → length f ≡ 6
word_bytes f k e = go (place_in f effects) refl (ltb (place_in f effects) 2) refl e
  where
    six : (n : ℕ) → n < 2 → length (ascii (get_or effects n "")) ≡ 6
    six zero h = refl
    six (suc zero) h = refl
    six (suc (suc n)) h = absurd (omega arith)

    go : (n : ℕ) → place_in f effects ≡ n → (b : Bool) → ltb (place_in f effects) 2 ≡ b → one (cond b (some (place_in f effects)) none) ≡ some k → length f ≡ 6
    go n q true l e = let z = ltb-true (place_in f effects) 2 l in place_length f effects n q (omega (arith, z, q)) ∙ six n (omega (arith, z, q))
    go n q false l e = no_some e

policy_parts : (m : Mode) (fs : List (List ℕ)) (l : List ℕ) → length fs ≡ 3 → items_from m policy_tag 0 fs ≡ some l → 11 ≤ weigh fs
unfolding slot_at form_of forms
policy_parts m [] l n e = absurd (omega (arith, n))
policy_parts m (f ∷ []) l n e = absurd (omega (arith, n))
policy_parts m (f ∷ w ∷ []) l n e = absurd (omega (arith, n))
policy_parts m (f ∷ w ∷ g ∷ []) l n e = three (one (at_most 9999 (decimal f))) (one (word_number w effects)) (one (at_most 9999 (decimal g))) refl refl refl e
  where
    three : (x y z : Option (List ℕ)) → one (at_most 9999 (decimal f)) ≡ x → one (word_number w effects) ≡ y → one (at_most 9999 (decimal g)) ≡ z
        → joined x (joined y (joined z (some []))) ≡ some l → 11 ≤ weigh (f ∷ w ∷ g ∷ [])
    three none y z a b c q = no_some q
    three (some x) none z a b c q = no_some q
    three (some x) (some y) none a b c q = no_some q
    three (some x) (some y) (some z) a b c q = let i = some_byte f x a in let j = word_bytes w y b in let k = some_byte g z c in omega (arith, i, j, k)
policy_parts m (f ∷ w ∷ g ∷ h ∷ fs) l n e = absurd (omega (arith, n))

-- ---- what a line's row takes of the line

unfoldable pub row_cost : List ℕ → ℕ
row_cost r = cond (eqb (tag r) policy_tag) policy_line (row_bytes r)

no_cost : (n : ℕ) → row_cost [] ≤ n
unfolding row_cost row_bytes
no_cost n = omega arith

text_cost : (v : List ℕ) (b : Bool) (n : ℕ) → row_cost (cond b (1 ∷ v) []) ≤ n
unfolding row_cost row_bytes
text_cost v true n = omega arith
text_cost v false n = omega arith

plain_length : (n : ℕ) → counted policy_tag n ≡ true → n ≡ 3
unfolding counted form_of forms
plain_length n e = counted_plain (form_of policy_tag) n refl e

-- a form's items, and where it is a policy's, six letters of its key
parts_cost : (m : Mode) (t : ℕ) (fs : List (List ℕ)) (e : ℕ) → (t ≡ policy_tag → e ≡ 6) → (b : Bool) → counted t (length fs) ≡ b → row_cost (cond b (or_empty t (items_from m t 0 fs)) []) ≤ e + 1 + weigh fs
unfolding row_cost row_bytes
parts_cost m t fs e six false c = omega arith
parts_cost m t fs e six true c = go (items_from m t 0 fs) refl
  where
    at_long : (l : List ℕ) (b : Bool) → long t ≡ b → items_from m t 0 fs ≡ some l → cond b (weigh (items_out t 0 l)) 0 ≤ e + 1 + weigh fs
    at_long l true q i = let z = items_bytes m t (long_places t q) 0 fs l i in omega (arith, z)
    at_long l false q i = omega arith

    at_tag : (l : List ℕ) (b : Bool) → eqb t policy_tag ≡ b → items_from m t 0 fs ≡ some l → cond b policy_line (cond (long t) (weigh (items_out t 0 l)) 0) ≤ e + 1 + weigh fs
    at_tag l true q i =
        let z : t ≡ policy_tag = eqb_true t policy_tag q in
        let y = policy_parts m fs l (plain_length (length fs) (subst (λ x. counted x (length fs) ≡ true) z c)) (subst (λ x. items_from m x 0 fs ≡ some l) z i) in
        let x = six z in
        omega (arith, x, y)
    at_tag l false q i = at_long l (long t) refl i

    go : (o : Option (List ℕ)) → items_from m t 0 fs ≡ o → row_cost (or_empty t o) ≤ e + 1 + weigh fs
    go none i = omega arith
    go (some l) i = at_tag l (eqb t policy_tag) refl i

value_cost : (m : Mode) (k : ℕ) (v : List ℕ) (e : ℕ) → (k ≡ POLICY → e ≡ 6) → (b : Bool) → row_cost (cond b (row_of_text v) (row_headed m k (heading k (split 44 v)))) ≤ e + 1 + suc (length v)
value_cost m k v e six true = text_cost v (leb (length v) 128) (e + 1 + suc (length v))
value_cost m k v e six false =
    let h = heading k (split 44 v) in
    let a = parts_cost m (tag_of k h.name) h.items e (λ q. six (policy_key k h.name q)) (counted (tag_of k h.name) (length h.items)) refl in
    let b = heading_weigh k (split 44 v) in
    let c = split_weigh 44 v in
    omega (arith, a, b, c)

key_length : (w : List ℕ) → place_in w keys ≡ POLICY → length w ≡ 6
unfolding keys
key_length w e = place_length w keys POLICY e (omega arith)

-- A LINE'S ROW TAKES NO MORE THAN THE LINE AND ITS END
row_cost_law : (m : Mode) (l : List ℕ) → row_cost (row_of m l) ≤ suc (length l)
unfolding row_of
row_cost_law m l = go (printable l) (ltb (up_to 61 l) (length l)) refl
  where
    go : (a b : Bool) → ltb (up_to 61 l) (length l) ≡ b → row_cost (cond (a && b) (row_of_value m (place_in (take (up_to 61 l) l) keys) (drop (suc (up_to 61 l)) l)) []) ≤ suc (length l)
    go true true q =
        let e = up_to 61 l in
        let k = place_in (take e l) keys in
        let y = ltb-true e (length l) q in
        let x = length-take e l in
        let v = value_cost m k (drop (suc e) l) e (λ p. let w = key_length (take e l) p in omega (arith, w, x, y)) (eqb k TEXT) in
        let z = length-drop (suc e) l in
        omega (arith, v, z, y)
    go true false q = no_cost (suc (length l))
    go false b q = no_cost (suc (length l))

-- ---- a sheet

-- what the lines of nodes and policies took
abbrev pub cost_of : State → ℕ
cost_of s = all_bytes (lines_of s NODE) + policy_line * count s POLICY

policy_key_is : (form_of policy_tag).key ≡ POLICY
unfolding form_of forms
policy_key_is = refl

bytes_cost : (r : List ℕ) → key_of r ≡ NODE → row_bytes r ≤ row_cost r
unfolding row_cost key_of
bytes_cost r e = go (eqb (tag r) policy_tag) refl
  where
    go : (b : Bool) → eqb (tag r) policy_tag ≡ b → row_bytes r ≤ cond b policy_line (row_bytes r)
    go true q = let z : NODE ≡ POLICY = sym e ∙ ap (λ t. (form_of t).key) (eqb_true (tag r) policy_tag q) ∙ policy_key_is in absurd (omega (arith, z))
    go false q = omega arith

policy_cost : (r : List ℕ) → key_of r ≡ POLICY → row_cost r ≡ policy_line
unfolding row_cost key_of
policy_cost r e = let (lo, hi) = tags_between POLICY policy_tag policy_tag (tag r) (omega arith) policy_tags e in rw (eq-eqb (tag r) policy_tag (omega (arith, lo, hi))) refl

more_cost : (s : State) (r : List ℕ) → cost_of (more s r) ≤ cost_of s + row_cost r
more_cost s r = lines_more s r NODE
    (λ e. let z = ap all_bytes e in lines_more s r POLICY (λ f. let y = ap length f in omega (arith, z, y))
    (λ p f. let y = ap length f in let x = length-append (lines_of s POLICY) (r ∷ []) in let w = policy_cost r (sym p) in omega (arith, z, y, x, w)))
    (λ q e. let z = ap all_bytes e in let v = all_snoc (lines_of s NODE) r in let u = bytes_cost r (sym q) in lines_more s r POLICY (λ f. let y = ap length f in omega (arith, z, y, v, u))
    (λ p f. absurd (omega (arith, p, q))))

module _ (m : Mode) where
  Within : State → ℕ → Reading → Type 0
  Within s n x = x.number ≡ 0 → cost_of x.state ≤ cost_of s + n

  end_cost : (s : State) (k n : ℕ) → Within s n (ending s k)
  unfolding Within
  end_cost s k n e = let z = ap cost_of (ended s k e).0 in omega (arith, z)

  reading_cost : (l : List ℕ) (ls : List (List ℕ)) (s : State) (k : ℕ) → Within s (length l + weigh ls) (reading m (l ∷ ls) s k)
  unfolding Within
  reading_cost l [] s k = line_then (Within s (length l + 0)) l s (cond (same l []) (ending s k) (reads s 3 k)) (λ k e. zero_not_suc e) (go (same l []))
    where
      go : (b : Bool) → (cond b (ending s k) (reads s 3 k)).number ≡ 0 → cost_of (cond b (ending s k) (reads s 3 k)).state ≤ cost_of s + (length l + 0)
      go true e = end_cost s k (length l + 0) e
      go false e = zero_not_suc e
  reading_cost l (n ∷ ls) s k = line_then (Within s (length l + (length n + 1 + weigh ls))) l s (line_read s k (row_of m l) (reading m (n ∷ ls))) (λ k e. zero_not_suc e) (go (fault s (row_of m l)) (λ q. reading_cost n ls (more s (row_of m l)) (suc k) q))
    where
      go : (f : ℕ) → ((reading m (n ∷ ls) (more s (row_of m l)) (suc k)).number ≡ 0 → cost_of (reading m (n ∷ ls) (more s (row_of m l)) (suc k)).state ≤ cost_of (more s (row_of m l)) + (length n + weigh ls))
          → (go_on s k (row_of m l) f (reading m (n ∷ ls))).number ≡ 0 → cost_of (go_on s k (row_of m l) f (reading m (n ∷ ls))).state ≤ cost_of s + (length l + (length n + 1 + weigh ls))
      go zero ih e = let a = ih e in let b = more_cost s (row_of m l) in let c = row_cost_law m l in omega (arith, a, b, c)
      go (suc f) ih e = zero_not_suc e

  none_yet : cost_of empty ≡ 0
  none_yet = refl

  pub read_cost : (sheet : List ℕ) → (read m sheet).number ≡ 0 → cost_of (read m sheet).state ≤ length sheet
  unfolding read Within
  read_cost sheet e = go (split 10 sheet) (split_some 10 sheet) (split_weigh 10 sheet) e
    where
      go : (ls : List (List ℕ)) → 1 ≤ length ls → weigh ls ≡ suc (length sheet) → (reading m ls empty 1).number ≡ 0 → cost_of (reading m ls empty 1).state ≤ length sheet
      go [] h w e = absurd (omega arith)
      go (l ∷ ls) h w e = let a = reading_cost l ls empty 1 e in let b = none_yet in omega (arith, a, b, w)
