-- The row of a whole line. Assumes nothing.
use Rattle.std.proofs.Common.{Some, None}
use mathlib.Core.Path.{◌≡◌, refl, sym, ap, ◌∙◌}
use mathlib.Core.Bool.{Bool, true, false, cond, ◌&&◌, ◌||◌}
use mathlib.Core.Option.{Option, none, some}
use mathlib.Core.List.{List, [], ◌∷◌, map}
use Prim.Native.Nat.{ℕ, suc, ◌+◌, ◌-◌, ◌*◌, ◌≤◌, ◌<◌}
use native.Mathlib.Omega.{arith}
use borrow.Author.Tests.{ne_eqb, le-leb, leb-true, ltb-true}
use lib.Dec.{leb, ltb, eqb}
use lib.ListN.{length, get_or, take, drop, set}
use lib.Seq.{take-set-le, drop-set-lt, lt-length-set, length-take-le}
use Rattle.words.specs.Log.{part, room}
use Rattle.words.proofs.Stores.{length_part}
use Rattle.sheet.specs.Ascii.{ascii}
use Rattle.sheet.specs.Bytes.{up_to, split, same, printable}
use Rattle.sheet.specs.Forms.{Form, entry, plain, keys, word_number, forms, form_of, form_in, tag_of, key_of, counted, or_empty, items_from, row_headed, heading, row_of_text, row_of_value, tag, no_key, SHEET, TEXT, DAY, NODE}
use Rattle.sheet.proofs.reading.Parsed.{all_below, all_below_law}
use Rattle.scan.specs.declared.Cursor.{Cursor}
use Rattle.scan.specs.declared.Line as L
use Rattle.scan.specs.Places.{Heading, place, keyed, heading_of, entered, line_to, line_at, items_at}
use Rattle.scan.specs.Numbers.{placed}
use Rattle.scan.proofs.Splits.{from_on, some_pair}
use Rattle.scan.proofs.Wordlists.{word_number_law, placed_below}
use Rattle.table.specs.Layout.{text_row}
use Rattle.forms.specs.Tags.{TEXT_LINE}
use Rattle.line.specs.Codes.{mode_of}
use Rattle.line.specs.Written.{Row, Text, Line, Entry, row_from_def, row_room}
use Rattle.line.proofs.LawsItem.{one_word, two_words}
use Rattle.line.proofs.LawsItems.{more_words}
use Rattle.line.proofs.LawsTag.{placed_long, tag_key}

-- ---- a text in words

module _ (start len top : ℕ) (w : List ℕ) where
  pub text_row_law : len ≤ 128 → room ≤ length w → top + 3 ≤ room → Text start len w (set (set (set w top TEXT_LINE) (top + 1) start) (top + 1 + 1) len) top 3
  text_row_law h l r =
      let u = set w top TEXT_LINE in
      let w₂ = set (set u (top + 1) start) (top + 1 + 1) len in
      let k : top + 1 - top ≡ 1 = omega arith in
      let q : top + 1 + 2 - top ≡ 3 = omega arith in
      let first : take (top + 1 - top) (drop top u) ≡ TEXT_LINE ∷ [] = rw k (one_word w top TEXT_LINE (omega arith)) in
      let rest : take 2 (drop (top + 1) w₂) ≡ start ∷ len ∷ [] = two_words u (top + 1) start len (lt-length-set w top TEXT_LINE (omega arith)) in
      let same : take (top + 1) w₂ ≡ take (top + 1) u = take-set-le (top + 1) (set u (top + 1) start) (top + 1 + 1) len (omega arith) ∙ take-set-le (top + 1) u (top + 1) start (omega arith) in
      let all : take 3 (drop top w₂) ≡ TEXT_LINE ∷ start ∷ len ∷ [] =
      sym (more_words u w₂ top (top + 1) 2 (omega arith) same ∙ ap (λ (i : ℕ). take i (drop top w₂)) q) ∙ rw (first, rest) refl in
      record {
        words = all ∙ sym (rw (le-leb len 128 h) refl);
        count = rw (le-leb len 128 h) refl;
        kept = record {
          below = take-set-le top (set u (top + 1) start) (top + 1 + 1) len (omega arith) ∙ take-set-le top u (top + 1) start (omega arith) ∙ take-set-le top w top TEXT_LINE (omega arith);
          rest = drop-set-lt room (set u (top + 1) start) (top + 1 + 1) len (omega arith) ∙ drop-set-lt room u (top + 1) start (omega arith) ∙ drop-set-lt room w top TEXT_LINE (omega arith);
        };
      }

-- ---- the key of a row is that of its line

key_of_none : key_of [] ≡ no_key
unfolding key_of form_of forms
key_of_none = refl

row_key : (k j t : ℕ) (w : List ℕ) (b : Bool) (o : Option (List ℕ)) → j < no_key → t ≡ tag_of k w → key_of (cond b (or_empty t o) []) ≡ j → k ≡ j
unfolding key_of
row_key k j t w true none h q e = absurd (omega (arith, key_of_none, e))
row_key k j t w true (some l) h q e = tag_key k j w h (ap (λ (i : ℕ). (form_of i).key) (sym q) ∙ e)
row_key k j t w false o h q e = absurd (omega (arith, key_of_none, e))

text_key : (v : List ℕ) (t : Bool) → key_of (cond t (TEXT_LINE ∷ v) []) ≡ NODE → ⊥
unfolding key_of form_of forms
text_key v true e = omega arith
text_key v false e = omega arith

-- no row but a text's begins with its tag
second_form : (k : ℕ) (w : List ℕ) (f g : Form) (fs : List Form) → eqb k g.key ≡ false → form_in k w (f ∷ g ∷ fs) ≡ 1 → ⊥
second_form k w f g fs h e = go (eqb k f.key && same w (ascii f.name)) (rw h at e)
  where
    go : (t : Bool) → cond t 0 (suc (suc (form_in k w fs))) ≡ 1 → ⊥
    go true e = omega arith
    go false e = omega arith

tag_not_text : (k : ℕ) (w : List ℕ) → (k ≡ TEXT → ⊥) → tag_of k w ≡ TEXT_LINE → ⊥
unfolding tag_of forms
tag_not_text k w h e = second_form k w (plain SHEET "" (entry ∷ [])) (plain TEXT "" []) (drop 2 forms) (ne_eqb k TEXT h) e

from_row : (sheet : List ℕ) (t : ℕ) (b : Bool) (o : Option (List ℕ)) → (t ≡ TEXT_LINE → ⊥) → row_from_def sheet (cond b (or_empty t o) []) ≡ cond b (or_empty t o) []
from_row sheet t true none h = refl
from_row sheet t true (some l) h = rw (ne_eqb t TEXT_LINE h) refl
from_row sheet t false o h = refl

no_length : (l : List ℕ) → 0 ≡ length l → l ≡ []
no_length [] e = refl
no_length (x ∷ l) e = absurd (omega arith)

-- ---- the row of a line whose key and `=` are known

tight_row : (k r v : ℕ) → 2 * r ≤ row_room k v → 2 * r ≤ v + 5
tight_row k r v a = go (eqb k NODE) a
  where
    go : (t : Bool) → 2 * r ≤ cond t v (v + 5) → 2 * r ≤ v + 5
    go true h = omega arith
    go false h = omega arith

tight_node : (k r v : ℕ) → k ≡ NODE → 2 * r ≤ row_room k v → 2 * r ≤ v
tight_node k r v q a = rw q at a

tight_text : (t : Bool) (r : ℕ) → r ≡ cond t 3 0 → 2 * r ≤ 6
tight_text true r a = omega arith
tight_text false r a = omega arith

-- a text that is too long has no words
short_text : (v : List ℕ) (t : Bool) (r b : ℕ) → r ≡ cond t 3 0 → (key_of (cond t (TEXT_LINE ∷ v) []) ≡ TEXT → ⊥) → 2 * r ≤ b
unfolding key_of form_of forms
short_text v true r b a h = absurd (h refl)
short_text v false r b a h = omega arith

text_from : (sheet v : List ℕ) (start : ℕ) (t : Bool) → v ≡ part sheet start (start + length v) → row_from_def sheet (cond t (TEXT_LINE ∷ start ∷ length v ∷ []) []) ≡ cond t (TEXT_LINE ∷ v) []
text_from sheet v start true x = ap (λ (y : List ℕ). TEXT_LINE ∷ y) (sym x)
text_from sheet v start false x = refl

text_none : (v : List ℕ) (t : Bool) → ◌≡◌ {A = ℕ} 0 (cond t 3 0) → cond t (TEXT_LINE ∷ v) [] ≡ []
text_none v true x = absurd (omega arith)
text_none v false x = refl

text_full : (v : List ℕ) (t : Bool) → cond t (TEXT_LINE ∷ v) [] ≡ [] → ◌≡◌ {A = ℕ} (cond t 3 0) 0
text_full v true x = absurd (omega (arith, ap length x))
text_full v false x = refl

module _ (w w₂ v : List ℕ) (p : Bool) (k top r start : ℕ) where
  pub entry_row : (c : Cursor) → c.at ≡ 0 → (k ≡ TEXT → ⊥) → Row (row_headed (mode_of p) k (heading k (items_at v c))) w w₂ top r (row_room k (length v - c.at))
      → Entry v start (row_of_value (mode_of p) k v) w w₂ top r
  entry_row c z n g₀ =
      let items : items_at v c ≡ split 44 v = from_on 44 v c.at (omega arith) ∙ ap (λ (a : ℕ). split 44 (drop a v)) z in
      let size : length v - c.at ≡ length v = omega arith in
      let g = rw (items, size) at g₀ in
      record { line = λ sheet within. by_value sheet g }
    where
      by_value : (sheet : List ℕ) → Row (row_headed (mode_of p) k (heading k (split 44 v))) w w₂ top r (row_room k (length v)) → Line sheet (row_of_value (mode_of p) k v) w w₂ top r (length v + 5)
      by_value sheet g =
          let hd = heading k (split 44 v) in
          let t = tag_of k hd.name in
          let b = counted t (length hd.items) in
          let o = items_from (mode_of p) t 0 hd.items in
          let row : row_of_value (mode_of p) k v ≡ row_headed (mode_of p) k hd = rw (ne_eqb k TEXT n) refl in
          record {
            words = ap (row_from_def sheet) g.words ∙ from_row sheet t b o (tag_not_text k hd.name n) ∙ sym row;
            empty = λ y. row ∙ no_length (row_headed (mode_of p) k hd) (sym y ∙ g.count);
            full = λ y. g.count ∙ ap length (sym row ∙ y);
            kept = g.kept;
            tight = omega (arith, tight_row k r (length v) g.tight);
            short = λ y. tight_row k r (length v) g.tight;
            node = λ y. omega (arith, tight_node k r (length v) (row_key k NODE t hd.name b o (omega arith) refl (ap key_of (sym row) ∙ y)) g.tight);
          }

  pub entry_text : k ≡ TEXT → Text start (length v) w w₂ top r → Entry v start (row_of_value (mode_of p) k v) w w₂ top r
  entry_text n g =
      let row : row_of_value (mode_of p) k v ≡ row_of_text v = rw n refl in
      record {
        line = λ sheet within. record {
          words = ap (row_from_def sheet) g.words ∙ text_from sheet v start (leb (length v) 128) within ∙ sym row;
          empty = λ y. row ∙ text_none v (leb (length v) 128) (sym y ∙ g.count);
          full = λ y. g.count ∙ text_full v (leb (length v) 128) (sym row ∙ y);
          kept = g.kept;
          tight = omega (arith, tight_text (leb (length v) 128) r g.count);
          short = λ y. short_text v (leb (length v) 128) r (length v + 5) g.count (λ e. y (ap key_of row ∙ e));
          node = λ y. absurd (text_key v (leb (length v) 128) (ap key_of (sym row) ∙ y));
        };
      }

-- the value of a line that ends at byte e of a sheet, with its `=` at byte a
module _ (sheet v : List ℕ) (a e : ℕ) (hv : v ≡ part sheet (a + 1) e) (low : a < e) (high : e ≤ length sheet) where
  pub value_long : length v + 5 ≡ e + 4 - a
  value_long = omega (arith, ap length hv, length_part sheet (a + 1) e high)

  pub entered_line : (p : Bool) (k top r : ℕ) (w w₂ : List ℕ) → Entry v (a + 1) (row_of_value (mode_of p) k v) w w₂ top r → Line sheet (row_of_value (mode_of p) k (part sheet (a + 1) e)) w w₂ top r (e + 4 - a)
  entered_line p k top r w w₂ g =
      let q : a + 1 + length v ≡ e = omega (arith, value_long) in
      rw (← hv, ← value_long) (g.line sheet (hv ∙ ap (part sheet (a + 1)) (sym q)))

-- ---- the row of a line by its heading

-- how many letters a key has
unfoldable letters : ℕ → ℕ
letters k = length (get_or (map ascii keys) k [])

letters_wide : all_below (λ (k : ℕ). leb 3 (letters k)) no_key ≡ true
unfolding letters keys
letters_wide = refl

four_letters : all_below (λ (k : ℕ). eqb k DAY || leb 4 (letters k)) no_key ≡ true
unfolding letters keys
four_letters = refl

-- every key but `day` has at least four
most_wide : (k : ℕ) → k < no_key → (k ≡ DAY → ⊥) → 4 ≤ letters k
most_wide k h n = leb-true 4 (letters k) (rw (ne_eqb k DAY n) at (all_below_law (λ (i : ℕ). eqb i DAY || leb 4 (letters i)) no_key k four_letters h))

keys_long : length (map ascii keys) ≡ no_key
unfolding keys
keys_long = refl

key_letters : (f : List ℕ) (k : ℕ) → word_number f keys ≡ some k → (k < no_key) × (length f ≡ letters k)
unfolding letters
key_letters f k e =
    let p : placed f (map ascii keys) ≡ some k = sym (word_number_law f keys) ∙ e in
    (omega (arith, placed_below f (map ascii keys) k p, keys_long), placed_long f (map ascii keys) k p)

heading_letters : (l : List ℕ) (k n : ℕ) → Some (k, n) ≡ heading_of l → (k < no_key) × (n ≡ letters k)
unfolding heading_of
heading_letters l k n e = go (printable l) (ltb (up_to 61 l) (length l)) refl (word_number (take (up_to 61 l) l) keys) refl e
  where
    none_of : ◌≡◌ {A = Heading} (Some (k, n)) None → (k < no_key) × (n ≡ letters k)
    none_of q = let z : ◌≡◌ {A = ℕ} 0 1 = cc in absurd (omega arith)

    go : (t u : Bool) → ltb (up_to 61 l) (length l) ≡ u → (o : Option ℕ) → word_number (take (up_to 61 l) l) keys ≡ o
        → Some (k, n) ≡ cond (t && u) (keyed (up_to 61 l) o) None → (k < no_key) × (n ≡ letters k)
    go false u d o p q = none_of q
    go true false d o p q = none_of q
    go true true d none p q = none_of q
    go true true d (some j) p q =
        let pair = some_pair q in
        let z : n ≡ up_to 61 l = pair.1 in
        let y : k ≡ j = pair.0 in
        let i = ltb-true (up_to 61 l) (length l) d in
        let r = key_letters (take (up_to 61 l) l) k (p ∙ ap some (sym y)) in
        (r.0, omega (arith, r.1, length-take-le (up_to 61 l) l (omega (arith, i)), z))

module _ (s : List ℕ) (c : Cursor) (k : ℕ) (equals : Cursor) (e : ℕ) (next : Cursor) (q : L.TheVariants.Entry k equals e next ≡ line_at s c) where
  -- the `=` of a line that was read stands behind the letters of its key
  entry_letters : (k < no_key) × (equals.at ≡ c.at + letters k)
  unfolding line_to
  entry_letters = go (ltb stop (length s)) (ltb c.at (length s)) (heading_of (part s c.at stop)) refl q
    where
      stop : ℕ
      stop = c.at + up_to 10 (drop c.at s)

      go : (t u : Bool) (h : Heading) → heading_of (part s c.at stop) ≡ h
          → L.TheVariants.Entry k equals e next ≡ cond t (entered c stop h) (cond u L.TheVariants.Faulty L.TheVariants.End) → (k < no_key) × (equals.at ≡ c.at + letters k)
      go false true h f y = let z : ◌≡◌ {A = ℕ} 0 1 = cc in absurd (omega arith)
      go false false h f y = let z : ◌≡◌ {A = ℕ} 0 1 = cc in absurd (omega arith)
      go true u None f y = let z : ◌≡◌ {A = ℕ} 0 1 = cc in absurd (omega arith)
      go true u (Some (j, n)) f y =
          let x : equals ≡ place c.line (c.at + n) = cc in
          let z : k ≡ j = cc in
          let r = heading_letters (part s c.at stop) k n (ap (λ (i : ℕ). keyed n (some i)) z ∙ sym f) in
          (r.0, omega (arith, r.1, ap (λ (d : Cursor). d.at) x))

  -- these are at least three
  pub entry_wide : c.at + 3 ≤ equals.at
  entry_wide = omega (arith, entry_letters.1, leb-true 3 (letters k) (all_below_law (λ (i : ℕ). leb 3 (letters i)) no_key k letters_wide entry_letters.0))

  -- and four where the line is not a day's
  pub entry_wider : (k ≡ DAY → ⊥) → c.at + 4 ≤ equals.at
  entry_wider n = omega (arith, entry_letters.1, most_wide k entry_letters.0 n)

-- ---- what the words of a row say, to those that read them

-- the words begin with the row's tag
pub words_tag : (sheet l : List ℕ) → tag (row_from_def sheet l) ≡ tag l
words_tag sheet [] = refl
words_tag sheet (t ∷ l) = go (eqb t TEXT_LINE)
  where
    go : (b : Bool) → tag (cond b (text_row sheet (t ∷ l)) (t ∷ l)) ≡ t
    go true = refl
    go false = refl

module _ (sheet l : List ℕ) where
  key_of_law : key_of (row_from_def sheet l) ≡ (form_of (tag l)).key
  unfolding key_of
  key_of_law = ap (λ (t : ℕ). (form_of t).key) (words_tag sheet l)
