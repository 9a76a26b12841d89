-- The items of a line, by the tests that lead to each. Assumes nothing.
use Rattle.std.proofs.Common.{Some, None}
use mathlib.Core.Path.{◌≡◌, refl, sym, ap, ◌∙◌}
use mathlib.Core.Bool.{Bool, true, false, cond, ◌&&◌, ◌||◌}
use mathlib.Core.Option.{Option, none, some}
use mathlib.Core.List.{List, [], ◌∷◌, map}
use Prim.Native.Nat.{ℕ, suc, ◌+◌, ◌-◌, ◌/◌, ◌%◌, ◌≤◌, ◌<◌}
use Prim.Native.String.{String}
use native.Mathlib.Omega.{arith}
use native.Mathlib.Numerals.{add-one}
use native.Mathlib.Decide.{ℕ_discrete, dec_lt}
use borrow.Author.Tests.{leb-true, ltb-true, ne_eqb, lt-ltb, le-ltb}
use lib.Dec.{leb, ltb, eqb}
use lib.ListN.{length, get_or, take, drop, set, get_or-eq_default}
use lib.Seq.{lt-length-set, take-set-le, drop-set-lt, drop-cons, get_or-set_same, get_or-set_other}
use Rattle.sheet.specs.Ascii.{ascii}
use Rattle.words.specs.Log.{part, room}
use Rattle.sheet.specs.Bytes.{same, split, index, long, date}
use Rattle.sheet.specs.Forms.{Slot, word, day, entry, line, line_or, line_unknown, number, nothing, dash, asterisk, mark, place_in, word_number, one, mark_or, is_partial, item}
use Rattle.scan.specs.declared.Cursor.{Cursor}
use Rattle.scan.specs.Places as Places
use Rattle.scan.specs.Numbers.{Number, number_of, placed}
use Rattle.scan.specs.Places.{Counted, item_end, items_by, ItemRead, NumberRead}
use Rattle.cedar.proofs.Tools.{no_true}
use Rattle.sheet.proofs.reading.Parsed.{all_below, all_below_law}
use Rattle.sheet.proofs.demand3.TwoSheets.{same_is}
use Rattle.scan.proofs.Scans.{same_length}
use Rattle.scan.proofs.Decimals.{index_small}
use Rattle.scan.proofs.Wordlists.{words_are}
use Rattle.scan.proofs.Readings.{items_first, items_part, numbered}
use Rattle.dates.proofs.Calendar.{past_dates, date_small}
use Rattle.forms.proofs.Tests.{other, below, past}
use Rattle.forms.specs.Rows.{NONE, NUMBER, ENTRY, KIND_LETTER, FIELD_LETTER, BIT, PART_LETTER, EFFECT, DATE, SLOT_LETTER, LINE, UNKNOWN, DASH, STAR, slot_of, specials}
use Rattle.line.specs.Codes.{mode_of}
use Rattle.line.specs.Written.{Item, After}

-- ---- words

word_is : (f : List ℕ) (ws : List String) (l : List ℕ) (r : Number) → map ascii ws ≡ split 44 l → number_of r ≡ placed f (split 44 l) → one (number_of r) ≡ one (word_number f ws)
word_is f ws l r e h = ap one (words_are f ws l r e h)

abbrev pub variables : List String
variables = "p" ∷ "a" ∷ "r" ∷ "c" ∷ []

abbrev pub effects : List String
effects = "permit" ∷ "forbid" ∷ []

module _ (f : List ℕ) where
  none_same : false ≡ same f (ascii "p") → false ≡ same f (ascii "a") → false ≡ same f (ascii "r") → false ≡ same f (ascii "c") → number_of None ≡ word_number f variables
  none_same a b c d = rw (← a, ← b, ← c, ← d) refl

  pub variable_long : (length f ≡ 1 → ⊥) → number_of None ≡ word_number f variables
  variable_long h = none_same (sym (same_length f (ascii "p") h)) (sym (same_length f (ascii "a") h)) (sym (same_length f (ascii "r") h)) (sym (same_length f (ascii "c") h))

  module _ (a : Bool) (ha : a ≡ same f (ascii "permit")) where
    module _ (b : Bool) (hb : b ≡ same f (ascii "forbid")) (t : a ≡ false) where
      pub effect_none : b ≡ false → number_of None ≡ word_number f effects
      effect_none u = rw (← ha, ← hb, t, u) refl

module _ (f : List ℕ) (r : Number) where
  pub entry_partial : (p : Bool) → p ≡ true → number_of r ≡ placed f (split 44 (ascii "partial")) → one (number_of r) ≡ item (mode_of p) entry f
  entry_partial p e h = rw e (word_is f ("partial" ∷ []) (ascii "partial") r refl h)

  pub entry_complete : (p : Bool) → p ≡ false → number_of r ≡ placed f (split 44 (ascii "complete")) → one (number_of r) ≡ item (mode_of p) entry f
  entry_complete p e h = rw e (word_is f ("complete" ∷ []) (ascii "complete") r refl h)

-- ---- marks and indices

-- ---- slots by their numbers

-- the byte `?`
abbrev question : ℕ
question = 63

module _ (p : Bool) (s : ℕ) (f : List ℕ) (r : Number) where
  pub star_or : STAR ≤ s → number_of r ≡ mark_or (same f (asterisk ∷ [])) (index f) → one (number_of r) ≡ item (mode_of p) (slot_of s) f
  unfolding slot_of
  star_or h q = rw (le-ltb s LINE (omega arith), le-ltb s UNKNOWN (omega arith), le-ltb s DASH (omega arith), le-ltb s STAR h) (ap one q)

  pub dash_or : s < STAR → DASH ≤ s → number_of r ≡ mark_or (same f (dash ∷ [])) (index f) → one (number_of r) ≡ item (mode_of p) (slot_of s) f
  unfolding slot_of
  dash_or l h q = rw (le-ltb s LINE (omega arith), le-ltb s UNKNOWN (omega arith), le-ltb s DASH h, lt-ltb s STAR l) (ap one q)

  pub unknown_partial : s < DASH → UNKNOWN ≤ s → p ≡ true → number_of r ≡ mark_or (same f (question ∷ [])) (index f) → one (number_of r) ≡ item (mode_of p) (slot_of s) f
  unfolding slot_of
  unknown_partial l h e q = rw (le-ltb s LINE (omega arith), le-ltb s UNKNOWN h, lt-ltb s DASH l, e) (ap one q)

  pub unknown_complete : s < DASH → UNKNOWN ≤ s → p ≡ false → number_of r ≡ index f → one (number_of r) ≡ item (mode_of p) (slot_of s) f
  unfolding slot_of
  unknown_complete l h e q = rw (le-ltb s LINE (omega arith), le-ltb s UNKNOWN h, lt-ltb s DASH l, e) (ap one q)

  pub line_index : s < UNKNOWN → LINE ≤ s → number_of r ≡ index f → one (number_of r) ≡ item (mode_of p) (slot_of s) f
  unfolding slot_of
  line_index h g q = rw (le-ltb s LINE g, lt-ltb s UNKNOWN h) (ap one q)

  pub slot_entry : s ≡ ENTRY → one (number_of r) ≡ item (mode_of p) entry f → one (number_of r) ≡ item (mode_of p) (slot_of s) f
  unfolding slot_of
  slot_entry e q = rw e q

  pub slot_kind : s ≡ KIND_LETTER → number_of r ≡ placed f (split 44 (ascii "e,a")) → one (number_of r) ≡ item (mode_of p) (slot_of s) f
  unfolding slot_of
  slot_kind e q = rw e (word_is f ("e" ∷ "a" ∷ []) (ascii "e,a") r refl q)

  pub slot_field : s ≡ FIELD_LETTER → number_of r ≡ placed f (split 44 (ascii "o,r")) → one (number_of r) ≡ item (mode_of p) (slot_of s) f
  unfolding slot_of
  slot_field e q = rw e (word_is f ("o" ∷ "r" ∷ []) (ascii "o,r") r refl q)

  pub slot_bit : s ≡ BIT → number_of r ≡ placed f (split 44 (ascii "0,1")) → one (number_of r) ≡ item (mode_of p) (slot_of s) f
  unfolding slot_of
  slot_bit e q = rw e (word_is f ("0" ∷ "1" ∷ []) (ascii "0,1") r refl q)

  pub slot_part : s ≡ PART_LETTER → number_of r ≡ word_number f variables → one (number_of r) ≡ item (mode_of p) (slot_of s) f
  unfolding slot_of
  slot_part e q = rw e (ap one q)

  pub slot_effect : s ≡ EFFECT → number_of r ≡ word_number f effects → one (number_of r) ≡ item (mode_of p) (slot_of s) f
  unfolding slot_of
  slot_effect e q = rw e (ap one q)

  pub slot_date : s ≡ DATE → number_of r ≡ date f → one (number_of r) ≡ item (mode_of p) (slot_of s) f
  unfolding slot_of
  slot_date e q = rw e (ap one q)

  pub slot_letter : s ≡ SLOT_LETTER → number_of r ≡ placed f (split 44 (ascii "p,r")) → one (number_of r) ≡ item (mode_of p) (slot_of s) f
  unfolding slot_of
  slot_letter e q = rw e (word_is f ("p" ∷ "r" ∷ []) (ascii "p,r") r refl q)

pub slot_none : (p : Bool) (s : ℕ) (f : List ℕ) → (s ≡ NUMBER → ⊥) → s < LINE → (s ≡ ENTRY → ⊥) → (s ≡ KIND_LETTER → ⊥) → (s ≡ FIELD_LETTER → ⊥) → (s ≡ BIT → ⊥)
    → (s ≡ PART_LETTER → ⊥) → (s ≡ EFFECT → ⊥) → (s ≡ DATE → ⊥) → (s ≡ SLOT_LETTER → ⊥) → one (number_of None) ≡ item (mode_of p) (slot_of s) f
unfolding slot_of below
slot_none p s f z h a b c d e g i j = rw (lt-ltb s LINE h) (ap (λ (v : Slot). item (mode_of p) v f) (sym (go (ℕ_discrete s NONE))))
  where
    go : Dec (s ≡ NONE) → get_or specials s nothing ≡ nothing
    go (yes k) = rw k refl
    go (no k) = get_or-eq_default specials nothing (past (length specials) s ((((((((((Prim.tt {0}, k), z), a), b), c), d), e), g), i), j))

no_some : {A X : Type 0} {a : A} → none ≡ some a → X
no_some e = let z : ◌≡◌ {A = ℕ} 0 1 = cc in absurd (omega arith)

-- ---- an item of one number is at most a mark or a date

abbrev Low : Option ℕ → Type 0
Low o = (n : ℕ) → o ≡ some n → n < past_dates

some_is : {m n : ℕ} → some m ≡ some n → m ≡ n
some_is e = cc

low_index : (f : List ℕ) → Low (index f)
low_index f n e = omega (arith, index_small f n (sym e))

low_mark : (b : Bool) (f : List ℕ) → Low (mark_or b (index f))
low_mark true f n e = omega (arith, some_is e)
low_mark false f n e = low_index f n e

low_word : (f : List ℕ) (ws : List String) → length ws ≤ mark → Low (word_number f ws)
low_word f ws h n e = go (ltb (place_in f ws) (length ws)) refl e
  where
    go : (t : Bool) → ltb (place_in f ws) (length ws) ≡ t → cond t (some (place_in f ws)) none ≡ some n → n < past_dates
    go true p q = omega (arith, some_is q, ltb-true (place_in f ws) (length ws) p)
    go false p q = no_some q

low_one : (o : Option ℕ) → Low o → (x : ℕ) → one o ≡ some (x ∷ []) → x < past_dates
low_one none h x e = no_some e
low_one (some n) h x e = let z : n ≡ x = cc in omega (arith, h n refl)

-- a place at which one number below that may stand
low : Slot → Bool
low entry = true
low (line k) = true
low (line_or b k) = true
low (line_unknown k) = true
low (word ws) = leb (length ws) mark
low number = false
low day = true
low nothing = true

item_low : (p : Bool) (v : Slot) (f : List ℕ) (x : ℕ) → low v ≡ true → item (mode_of p) v f ≡ some (x ∷ []) → x < past_dates
unfolding low
item_low true entry f x h e = low_one (word_number f ("partial" ∷ [])) (low_word f ("partial" ∷ []) (omega arith)) x e
item_low false entry f x h e = low_one (word_number f ("complete" ∷ [])) (low_word f ("complete" ∷ []) (omega arith)) x e
item_low p (line k) f x h e = low_one (index f) (low_index f) x e
item_low p (line_or b k) f x h e = low_one (mark_or (same f (b ∷ [])) (index f)) (low_mark (same f (b ∷ [])) f) x e
item_low p (line_unknown k) f x h e = low_one (mark_or (is_partial (mode_of p) && same f (question ∷ [])) (index f)) (low_mark (is_partial (mode_of p) && same f (question ∷ [])) f) x e
item_low p (word ws) f x h e = low_one (word_number f ws) (low_word f ws (leb-true (length ws) mark h)) x e
item_low p number f x h e = no_true h
item_low p day f x h e = low_one (date f) (date_small f) x e
item_low p nothing f x h e = no_some e

-- what holds of all that stands for a number below LINE, and of a line of each kind, holds of what stands for any
slot_each : (t : Slot → Bool) (s : ℕ) → (s < LINE → t (get_or specials s nothing) ≡ true) → ((k : ℕ) → t (line k) ≡ true) → ((k : ℕ) → t (line_unknown k) ≡ true)
    → ((b k : ℕ) → t (line_or b k) ≡ true) → t (slot_of s) ≡ true
unfolding slot_of
slot_each t s special l u o = go (ltb s LINE) (ltb s UNKNOWN) (ltb s DASH) (ltb s STAR) refl
  where
    go : (a b c d : Bool) → ltb s LINE ≡ a
        → t (cond a (get_or specials s nothing) (cond b (line (s - LINE)) (cond c (line_unknown (s - UNKNOWN)) (cond d (line_or dash (s - DASH)) (line_or asterisk (s - STAR)))))) ≡ true
    go true b c d e = special (ltb-true s LINE e)
    go false true c d e = l (s - LINE)
    go false false true d e = u (s - UNKNOWN)
    go false false false true e = o dash (s - DASH)
    go false false false false e = o asterisk (s - STAR)

low_at : ℕ → Bool
low_at s = eqb s NUMBER || low (get_or specials s nothing)

specials_low : all_below low_at LINE ≡ true
unfolding low low_at
specials_low = refl

slot_low : (p : Bool) (s : ℕ) (f : List ℕ) (x : ℕ) → (s ≡ NUMBER → ⊥) → item (mode_of p) (slot_of s) f ≡ some (x ∷ []) → x < past_dates
unfolding low low_at
slot_low p s f x z e =
    item_low p (slot_of s) f x
    (slot_each low s (λ l. other (eqb s NUMBER) (low (get_or specials s nothing)) (ne_eqb s NUMBER z) (all_below_law low_at LINE s specials_low l)) (λ k. refl) (λ k. refl) (λ b k. refl))
    e

-- ---- an index, where a line may stand

unmarked : (b : ℕ) (f : List ℕ) (n : ℕ) → index (b ∷ []) ≡ none → index f ≡ some n → same f (b ∷ []) ≡ false
unmarked b f n m e = go (same f (b ∷ [])) refl
  where
    go : (t : Bool) → same f (b ∷ []) ≡ t → t ≡ false
    go true q = no_some (sym m ∙ ap index (sym (same_is f (b ∷ []) q)) ∙ e)
    go false q = refl

marked_index : (b : ℕ) (f : List ℕ) (n : ℕ) → index (b ∷ []) ≡ none → index f ≡ some n → some n ≡ mark_or (same f (b ∷ [])) (index f)
marked_index b f n m e = sym (ap (λ (t : Bool). mark_or t (index f)) (unmarked b f n m e) ∙ e)

pub slot_index : (p : Bool) (s : ℕ) (f : List ℕ) (n : ℕ) → LINE ≤ s → index f ≡ some n → one (number_of (Some n)) ≡ item (mode_of p) (slot_of s) f
slot_index p s f n h e = go p (dec_lt s UNKNOWN) (dec_lt s DASH) (dec_lt s STAR)
  where
    go : (p : Bool) → Dec (s < UNKNOWN) → Dec (s < DASH) → Dec (s < STAR) → one (number_of (Some n)) ≡ item (mode_of p) (slot_of s) f
    go p (yes l) u v = line_index p s f (Some n) l h (sym e)
    go true (no l) (yes u) v = unknown_partial true s f (Some n) u (omega arith) refl (marked_index question f n refl e)
    go false (no l) (yes u) v = unknown_complete false s f (Some n) u (omega arith) refl (sym e)
    go p (no l) (no u) (yes v) = dash_or p s f (Some n) v (omega arith) (marked_index dash f n refl e)
    go p (no l) (no u) (no v) = star_or p s f (Some n) (omega arith) (marked_index asterisk f n refl e)

-- ---- an item in words

pub one_word : (w : List ℕ) (k x : ℕ) → k < length w → take 1 (drop k (set w k x)) ≡ x ∷ []
one_word w k x h = rw (drop-cons (set w k x) k 0 (lt-length-set w k x h), get_or-set_same w k x 0 h) refl

pub two_words : (w : List ℕ) (k x y : ℕ) → k + 1 < length w → take 2 (drop k (set (set w k x) (k + 1) y)) ≡ x ∷ y ∷ []
two_words w k x y h =
    let u = set (set w k x) (k + 1) y in
    let h₁ : k < length w = omega arith in
    let a : k < length u = lt-length-set (set w k x) (k + 1) y (lt-length-set w k x h₁) in
    let b : k + 1 < length (set w k x) = lt-length-set w k x h in
    let d : suc k < length u = rw (← add-one k) (lt-length-set (set w k x) (k + 1) y b) in
    let g : get_or u k 0 ≡ x = get_or-set_other (set w k x) (k + 1) k y 0 (λ z. absurd (omega arith)) ∙ get_or-set_same w k x 0 h₁ in
    let e : get_or u (suc k) 0 ≡ y = rw (← add-one k) (get_or-set_same (set w k x) (k + 1) y 0 b) in
    rw (drop-cons u k 0 a, drop-cons u (suc k) 0 d, g, e) refl

-- a well-formed item has a byte
long_wide : (f : List ℕ) (v : ℕ) → long f ≡ some v → 1 ≤ length f
long_wide [] v e = no_some e
long_wide (x ∷ f) v e = omega arith

pub index_wide : (f : List ℕ) (n : ℕ) → index f ≡ some n → 1 ≤ length f
index_wide [] n e = no_some e
index_wide (x ∷ f) n e = omega arith

-- a place whose words have a byte each
filled : Slot → Bool
filled entry = true
filled (line k) = true
filled (line_or b k) = true
filled (line_unknown k) = true
filled (word ws) = leb (length ws) (place_in [] ws)
filled number = true
filled day = true
filled nothing = true

item_empty : (p : Bool) (v : Slot) → filled v ≡ true → item (mode_of p) v [] ≡ none
unfolding filled
item_empty true entry h = refl
item_empty false entry h = refl
item_empty p (line k) h = refl
item_empty p (line_or b k) h = refl
item_empty true (line_unknown k) h = refl
item_empty false (line_unknown k) h = refl
item_empty p (word ws) h = rw (le-ltb (place_in [] ws) (length ws) (leb-true (length ws) (place_in [] ws) h)) refl
item_empty p number h = refl
item_empty p day h = refl
item_empty p nothing h = refl

filled_at : ℕ → Bool
filled_at s = filled (get_or specials s nothing)

specials_filled : all_below filled_at LINE ≡ true
unfolding filled filled_at
specials_filled = refl

slot_empty : (p : Bool) (s : ℕ) → item (mode_of p) (slot_of s) [] ≡ none
unfolding filled filled_at
slot_empty p s = item_empty p (slot_of s) (slot_each filled s (all_below_law filled_at LINE s specials_filled) (λ k. refl) (λ k. refl) (λ b k. refl))

item_wide : (p : Bool) (s : ℕ) (f l : List ℕ) → item (mode_of p) (slot_of s) f ≡ some l → 1 ≤ length f
item_wide p s [] l e = no_some (sym (slot_empty p s) ∙ e)
item_wide p s (x ∷ f) l e = omega arith

module _ (p : Bool) (s k : ℕ) (f w : List ℕ) (m : Number) where
  -- a long
  pub put_long : (v : ℕ) → s ≡ NUMBER → number_of m ≡ long f → m ≡ Some v → (k + 2 ≤ room) × (room ≤ length w)
      → Item (item (mode_of p) (slot_of s) f) f w (set (set w k (v / 4294967296)) (k + 1) (v % 4294967296)) s k 2
  unfolding slot_of
  put_long v e h g l =
      let q : long f ≡ some v = sym h ∙ ap number_of g in
      record {
        item = rw (e, q) (ap some (sym (two_words w k (v / 4294967296) (v % 4294967296) (omega (arith, l.0, l.1)))));
        kept = record {
          below = take-set-le k (set w k (v / 4294967296)) (k + 1) (v % 4294967296) (omega arith) ∙ take-set-le k w k (v / 4294967296) (omega arith);
          rest = drop-set-lt room (set w k (v / 4294967296)) (k + 1) (v % 4294967296) (omega (arith, l.0)) ∙ drop-set-lt room w k (v / 4294967296) (omega (arith, l.0));
        };
        few = omega arith;
        two = λ z. e;
        wide = λ z. long_wide f v q;
      }

  nothing_put : item (mode_of p) (slot_of s) f ≡ none → Item (item (mode_of p) (slot_of s) f) f w w s k 0
  nothing_put e =
      record { item = e; kept = record { below = refl; rest = refl }; few = omega arith; two = λ z. absurd (omega arith); wide = λ z. absurd (omega arith) }

  pub put_no_long : s ≡ NUMBER → number_of m ≡ long f → m ≡ None → Item (item (mode_of p) (slot_of s) f) f w w s k 0
  unfolding slot_of
  put_no_long e h g = let q : long f ≡ none = sym h ∙ ap number_of g in nothing_put (rw (e, q) refl)

  module _ (h : one (number_of m) ≡ item (mode_of p) (slot_of s) f) where
    module _ (x : ℕ) (g : m ≡ Some x) where
      one_is : item (mode_of p) (slot_of s) f ≡ some (x ∷ [])
      one_is = sym h ∙ ap (λ (n : Number). one (number_of n)) g

      pub one_low : (s ≡ NUMBER → ⊥) → x < past_dates
      one_low z = slot_low p s f x z one_is

      pub put_one : (k + 2 ≤ room) × (room ≤ length w) → Item (item (mode_of p) (slot_of s) f) f w (set w k x) s k 1
      put_one l =
          record {
            item = one_is ∙ ap some (sym (one_word w k x (omega (arith, l.0, l.1))));
            kept = record { below = take-set-le k w k x (omega arith); rest = drop-set-lt room w k x (omega (arith, l.0)) };
            few = omega arith;
            two = λ z. absurd (omega arith);
            wide = λ z. item_wide p s f (x ∷ []) one_is;
          }

-- ---- the item at a cursor

-- within a value there is one
pub item_there : {X : Type 0} (s : List ℕ) (c : Cursor) (i : Places.Item) → ItemRead s c i → c.at ≤ length s → i ≡ None → X
item_there s c i q h g = absurd (omega (arith, ap length (q.items ∙ ap (items_by s c) g), ap length (items_first s c h)))

module _ (p : Bool) (s w : List ℕ) (c : Cursor) (slot k : ℕ) where
  pub next_index : (d : Counted) (n : ℕ) (next : Cursor) → LINE ≤ slot → NumberRead s c d → d ≡ Some (n, next) → k + 2 ≤ room → room ≤ length w
      → After (mode_of p) s w (set w k n) c.at slot k next.at 1
  next_index d n next h hd g l₁ l₂ =
      let q = numbered s c n next (sym g ∙ hd.is) in
      let f = part s c.at (item_end s c.at) in
      record { next = q.item.next_at; put = put_one p slot k f w (Some n) (slot_index p slot f n h q.index_is) n refl (l₁, l₂) }

  pub next_part : (i : Places.Item) (e : ℕ) (next : Cursor) (f : List ℕ) (r : ℕ) (w₂ : List ℕ) → ItemRead s c i → i ≡ Some (e, next) → f ≡ part s c.at e → Item (item (mode_of p) (slot_of slot) f) f w w₂ slot k r
      → After (mode_of p) s w w₂ c.at slot k next.at r
  next_part i e next f r w₂ hi g hf j =
      let q = items_part s c e next (sym g ∙ hi.is) in
      let hf₂ : f ≡ part s c.at (item_end s c.at) = hf ∙ ap (part s c.at) q.end in
      record { next = q.next_at ∙ ap (λ (x : ℕ). x + 1) q.end; put = rw (← hf₂) j }

  pub next_bad : (i : Places.Item) (e : ℕ) (next : Cursor) (f w₂ : List ℕ) → ItemRead s c i → i ≡ Some (e, next) → f ≡ part s c.at e → Item (item (mode_of p) (slot_of slot) f) f w w₂ slot k 0
      → After (mode_of p) s w w₂ c.at slot k (item_end s c.at + 1) 0
  next_bad i e next f w₂ hi g hf j =
      let q = items_part s c e next (sym g ∙ hi.is) in
      let hf₂ : f ≡ part s c.at (item_end s c.at) = hf ∙ ap (part s c.at) q.end in
      record { next = refl; put = rw (← hf₂) j }
