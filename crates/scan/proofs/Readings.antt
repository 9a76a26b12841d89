-- What a line or an item that was read is to the definition of a sheet's reading. Assumes nothing.
use Rattle.std.proofs.Common.{◌≡◌, ℕ, suc, ◌+◌, ◌-◌, ◌<◌, ◌≤◌, Bool, true, false, cond, ◌&&◌, ltb, List, [], ◌∷◌, length, take, drop, sym, refl, ap, ◌∙◌, add-one, arith, drop_of_length-le, drop-drop, ltb-false, ltb-true, le-leb, Some, None}
use mathlib.Core.Option.{Option, none, some}
use Prim.Native.String.{String}
use native.Mathlib.Decide.{dec_lt}
use borrow.Author.Tests.{lt-leb}
use lib.ListN.{get_or-eq_default}
use Rattle.words.specs.Log.{part}
use Rattle.words.proofs.Stores.{length_part}
use Rattle.sheet.specs.Ascii.{ascii}
use Rattle.sheet.specs.Bytes.{up_to, split, same, printable, index}
use Rattle.sheet.specs.Forms.{Mode, Slot, keys, forms, no_form, form_of, slot_at, counted, item, items_from, joined, or_empty, place_in, word_number, tag_of, row_for, row_of_value, row_of, no_key, no_tag}
use Rattle.sheet.specs.State.{State}
use Rattle.sheet.specs.Sheet.{fault, reads, ending, line_read, reading, reading_on}
use Rattle.scan.specs.declared.Cursor.{Cursor}
use Rattle.scan.specs.declared.Line as L
use Rattle.scan.specs.Places.{place, keyed, heading_of, entered, line_after, line_to, line_at, parts_from, items_at, item_end, item_at, lead, told, handed, number_at, index_by, first_index, LineRead, ItemRead, NumberRead, Heading, Item, Counted}
use Rattle.scan.proofs.Scans.{drop_take}
use Rattle.scan.proofs.Splits.{found_le, some_pair, split_parts, split_at, from_on, from_end}

-- ---- items: reading one takes the first of those left

module _ (s : List ℕ) (c : Cursor) where
  pub items_end : None ≡ item_at s c → items_at s c ≡ []
  unfolding item_at
  items_end e = go (dec_lt (length s) c.at)
    where
      go : Dec (length s < c.at) → items_at s c ≡ []
      go (yes d) = from_end 44 s c.at d
      go (no d) = let z : ◌≡◌ {A = ℕ} 0 1 = let q = rw (le-leb c.at (length s) (omega arith)) at e in cc in absurd (omega arith)

  -- the first of them, where there is one
  pub items_first : c.at ≤ length s → items_at s c ≡ part s c.at (item_end s c.at) ∷ parts_from 44 s (item_end s c.at + 1)
  items_first h = from_on 44 s c.at h ∙ split_at 44 s c.at (item_end s c.at) h refl

-- an item that was read up to byte e, with the cursor after it
pub record Walked (s : List ℕ) (c : Cursor) (e : ℕ) (next : Cursor) : Type 0 where
  pub begins : c.at ≤ length s
  pub end : e ≡ item_end s c.at
  pub within : e ≤ length s
  pub next_at : next.at ≡ e + 1
  pub line_kept : next.line ≡ c.line
  pub items : items_at s c ≡ part s c.at e ∷ items_at s next

walked : (s : List ℕ) (c : Cursor) (e : ℕ) (next : Cursor) → c.at ≤ length s → e ≡ item_end s c.at → next ≡ place c.line (e + 1) → Walked s c e next
walked s c e next h f m =
    let a : next.at ≡ e + 1 = ap (λ (x : Cursor). x.at) m in
    record {
      begins = h;
      end = f;
      within = found_le 44 s c.at e h f;
      next_at = a;
      line_kept = ap (λ (x : Cursor). x.line) m;
      items = rw (a, f) (items_first s c h);
    }

pub items_part : (s : List ℕ) (c : Cursor) (e : ℕ) (next : Cursor) → Some (e, next) ≡ item_at s c → Walked s c e next
unfolding item_at
items_part s c e next q = go (dec_lt (length s) c.at)
  where
    go : Dec (length s < c.at) → Walked s c e next
    go (yes d) = let y = rw (lt-leb c.at (length s) d) at q in let z : ◌≡◌ {A = ℕ} 0 1 = cc in absurd (omega arith)
    go (no d) =
        let h : c.at ≤ length s = omega arith in
        let y = rw (le-leb c.at (length s) h) at q in
        let p = some_pair y in
        let f : e ≡ item_end s c.at = p.0 in
        walked s c e next h f (p.1 ∙ ap (λ (i : ℕ). place c.line (i + 1)) (sym f))

-- ---- numbers: the first item as an index

-- an index that was read, with the cursor after it
pub record Numbered (s : List ℕ) (c : Cursor) (n : ℕ) (next : Cursor) : Type 0 where
  pub index_is : index (part s c.at (item_end s c.at)) ≡ some n
  pub item : Walked s c (item_end s c.at) next

part_lead : (s : List ℕ) (c : Cursor) → part s c.at (item_end s c.at) ≡ lead (drop c.at s)
part_lead s c = let z : item_end s c.at - c.at ≡ up_to 44 (drop c.at s) = omega arith in ap (λ (n : ℕ). take n (drop c.at s)) z

module _ (s : List ℕ) (c : Cursor) (n : ℕ) (next : Cursor) where
  handed_some : (k : ℕ) (o : Option ℕ) → Some (n, next) ≡ handed c (told k o) → (o ≡ some n) × (next ≡ place c.line (c.at + k + 1))
  handed_some k none q = let z : ◌≡◌ {A = ℕ} 0 1 = cc in absurd (omega arith)
  handed_some k (some i) q = let p = some_pair q in (ap some (sym p.0), p.1)

  pub numbered : Some (n, next) ≡ number_at s c → Numbered s c n next
  unfolding number_at
  numbered q = go (dec_lt (length s) c.at)
    where
      go : Dec (length s < c.at) → Numbered s c n next
      go (yes d) = let y = rw (lt-leb c.at (length s) d) at q in let z : ◌≡◌ {A = ℕ} 0 1 = cc in absurd (omega arith)
      go (no d) =
          let h : c.at ≤ length s = omega arith in
          let y = handed_some (up_to 44 (drop c.at s)) (index (lead (drop c.at s))) (rw (le-leb c.at (length s) h) at q) in
          record { index_is = ap index (part_lead s c) ∙ y.0; item = walked s c (item_end s c.at) next h refl y.1 }

-- ---- a key that is none of all: its line has no row

place_is : (w : List ℕ) (ws : List String) (k : ℕ) → word_number w ws ≡ some k → place_in w ws ≡ k
place_is w ws k e = go (ltb (place_in w ws) (length ws)) e
  where
    go : (t : Bool) → cond t (some (place_in w ws)) none ≡ some k → place_in w ws ≡ k
    go true q = cc
    go false q = let z : ◌≡◌ {A = ℕ} 0 1 = cc in absurd (omega arith)

place_le : (w : List ℕ) (ws : List String) → place_in w ws ≤ length ws
place_le w [] = omega arith
place_le w (x ∷ ws) = go (same w (ascii x)) (place_le w ws)
  where
    go : (t : Bool) → place_in w ws ≤ length ws → cond t 0 (suc (place_in w ws)) ≤ suc (length ws)
    go true h = omega arith
    go false h = omega arith

place_past : (w : List ℕ) (ws : List String) → word_number w ws ≡ none → place_in w ws ≡ length ws
place_past w ws e = go (ltb (place_in w ws) (length ws)) refl e
  where
    go : (t : Bool) → ltb (place_in w ws) (length ws) ≡ t → cond t (some (place_in w ws)) none ≡ none → place_in w ws ≡ length ws
    go true p q = let z : ◌≡◌ {A = ℕ} 0 1 = cc in absurd (omega arith)
    go false p q = omega (arith, ltb-false (place_in w ws) (length ws) p, place_le w ws)

all_keys : length keys ≡ no_key
unfolding keys
all_keys = refl

all_forms : length forms ≡ no_tag
unfolding forms
all_forms = refl

no_tag_law : tag_of no_key [] ≡ no_tag
unfolding tag_of forms
no_tag_law = refl

no_form_law : (t : ℕ) → t ≡ no_tag → form_of t ≡ no_form
unfolding form_of
no_form_law t h = get_or-eq_default forms no_form {n = t} (omega (arith, all_forms))

no_slot : (t : ℕ) → t ≡ no_tag → slot_at t 0 ≡ Slot.nothing
unfolding slot_at
no_slot t h = rw (no_form_law t h) refl

no_count : (t : ℕ) → t ≡ no_tag → counted t 0 ≡ false
unfolding counted
no_count t h = rw (no_form_law t h) refl

no_row : (m : Mode) (t : ℕ) (fs : List (List ℕ)) → t ≡ no_tag → row_for m t fs ≡ []
no_row m t [] h = go (counted t 0) (no_count t h)
  where
    go : (b : Bool) → b ≡ false → cond b (t ∷ []) [] ≡ []
    go b e = rw e refl
no_row m t (f ∷ fs) h = go (counted t (suc (length fs))) (ap (λ (s : Slot). item m s f) (no_slot t h))
  where
    go : (b : Bool) → item m (slot_at t 0) f ≡ none → cond b (or_empty t (joined (item m (slot_at t 0) f) (items_from m t 1 fs))) [] ≡ []
    go true e = rw e refl
    go false e = refl

-- ---- a line's heading and its row

module _ (m : Mode) (l : List ℕ) where
  pub row_keyed : (k n : ℕ) → Some (k, n) ≡ heading_of l → (n < length l) × (row_of m l ≡ row_of_value m k (drop (n + 1) l))
  unfolding heading_of row_of
  row_keyed k n e = go (printable l) (ltb (up_to 61 l) (length l)) refl (word_number (take (up_to 61 l) l) keys) refl e
    where
      Goal : Bool → Type 0
      Goal b = (n < length l) × (cond b (row_of_value m (place_in (take (up_to 61 l) l) keys) (drop (suc (up_to 61 l)) l)) [] ≡ row_of_value m k (drop (n + 1) l))

      none_of : (b : Bool) → ◌≡◌ {A = Heading} (Some (k, n)) None → Goal b
      none_of b q = let z : ◌≡◌ {A = ℕ} 0 1 = cc in absurd (omega arith)

      go : (t u : Bool) → ltb (up_to 61 l) (length l) ≡ u → (o : Option ℕ) → word_number (take (up_to 61 l) l) keys ≡ o
          → Some (k, n) ≡ cond (t && u) (keyed (up_to 61 l) o) None → Goal (t && u)
      go false u d o f q = none_of (false && u) q
      go true false d o f q = none_of false q
      go true true d none f q = none_of true q
      go true true d (some j) f q =
          let p = some_pair q in
          let z : n ≡ up_to 61 l = p.1 in
          let y : k ≡ j = p.0 in
          let x : place_in (take (up_to 61 l) l) keys ≡ k = place_is (take (up_to 61 l) l) keys j f ∙ sym y in
          (omega (arith, ltb-true (up_to 61 l) (length l) d), rw (x, add-one n, z))

  pub row_malformed : None ≡ heading_of l → row_of m l ≡ []
  unfolding heading_of row_of
  row_malformed e = go (printable l && ltb (up_to 61 l) (length l)) (word_number (take (up_to 61 l) l) keys) refl e
    where
      go : (t : Bool) (o : Option ℕ) → word_number (take (up_to 61 l) l) keys ≡ o → None ≡ cond t (keyed (up_to 61 l) o) None
          → cond t (row_of_value m (place_in (take (up_to 61 l) l) keys) (drop (suc (up_to 61 l)) l)) [] ≡ []
      go false o f q = refl
      go true (some j) f q = let z : ◌≡◌ {A = ℕ} 0 1 = cc in absurd (omega arith)
      go true none f q =
          let x : place_in (take (up_to 61 l) l) keys ≡ no_key = place_past (take (up_to 61 l) l) keys f ∙ all_keys in
          rw x (no_row m (tag_of no_key []) (split 44 (drop (suc (up_to 61 l)) l)) no_tag_law)

-- ---- lines: reading one takes the first of those left

-- a line that was read, with the cursors at its `=` and at the next line
pub record Entered (s : List ℕ) (c : Cursor) (k : ℕ) (equals : Cursor) (e : ℕ) (next : Cursor) : Type 0 where
  pub begins : c.at ≤ equals.at
  pub equals_in : equals.at < e
  pub ends : e < length s
  pub line_kept : equals.line ≡ c.line
  pub next_at : next.at ≡ e + 1
  pub next_line : next.line ≡ line_after c.line
  pub lines : split 10 (drop c.at s) ≡ part s c.at e ∷ split 10 (drop next.at s)
  pub row : (m : Mode) → row_of m (part s c.at e) ≡ row_of_value m k (part s (equals.at + 1) e)

pub drop_part : (s : List ℕ) (a e n : ℕ) → drop n (part s a e) ≡ part s (a + n) e
drop_part s a e n =
    let z : e - a - n ≡ e - (a + n) = omega arith in
    drop_take (e - a) n (drop a s) ∙ ap (take (e - a - n)) (drop-drop n a s) ∙ ap (λ (k : ℕ). take k (drop (a + n) s)) z

module _ (s : List ℕ) (c : Cursor) where
  -- the line's end
  stop : ℕ
  stop = c.at + up_to 10 (drop c.at s)

  -- a line that ends within the sheet begins there
  starts : stop < length s → c.at ≤ length s
  unfolding stop
  starts h = omega arith

  lines_at : stop < length s → split 10 (drop c.at s) ≡ part s c.at stop ∷ split 10 (drop (stop + 1) s)
  unfolding stop
  lines_at h = split_at 10 s c.at stop (starts h) refl ∙ ap (λ (t : List (List ℕ)). part s c.at stop ∷ t) (from_on 10 s (stop + 1) (omega arith))

  lines_last : length s ≤ stop → c.at ≤ length s → split 10 (drop c.at s) ≡ part s c.at stop ∷ []
  unfolding stop
  lines_last h l = split_at 10 s c.at stop l refl ∙ ap (λ (t : List (List ℕ)). part s c.at stop ∷ t) (from_end 10 s (stop + 1) (omega arith))

  pub line_entered : (k : ℕ) (equals : Cursor) (e : ℕ) (next : Cursor) → L.TheVariants.Entry k equals e next ≡ line_at s c → Entered s c k equals e next
  unfolding line_to stop
  line_entered k equals e next q = go (ltb stop (length s)) (ltb c.at (length s)) refl (heading_of (part s c.at stop)) refl q
    where
      none_of : L.TheVariants.Entry k equals e next ≡ L.TheVariants.Faulty → Entered s c k equals e next
      none_of y = let z : ◌≡◌ {A = ℕ} 0 1 = cc in absurd (omega arith)

      end_of : L.TheVariants.Entry k equals e next ≡ L.TheVariants.End → Entered s c k equals e next
      end_of y = let z : ◌≡◌ {A = ℕ} 0 1 = cc in absurd (omega arith)

      go : (t u : Bool) → ltb stop (length s) ≡ t → (h : Heading) → heading_of (part s c.at stop) ≡ h
          → L.TheVariants.Entry k equals e next ≡ cond t (entered c stop h) (cond u L.TheVariants.Faulty L.TheVariants.End) → Entered s c k equals e next
      go false true d h f y = none_of y
      go false false d h f y = end_of y
      go true u d None f y = none_of y
      go true u d (Some (j, n)) f y =
          let lt : stop < length s = ltb-true stop (length s) d in
          let ek : k ≡ j = cc in
          let eq : equals ≡ place c.line (c.at + n) = cc in
          let ee : e ≡ stop = cc in
          let en : next ≡ place (line_after c.line) (stop + 1) = cc in
          let ea : equals.at ≡ c.at + n = ap (λ (x : Cursor). x.at) eq in
          let na : next.at ≡ e + 1 = ap (λ (x : Cursor). x.at) en ∙ ap (λ (x : ℕ). x + 1) (sym ee) in
          let l : List ℕ = part s c.at stop in
          let len : length l ≡ stop - c.at = length_part s c.at stop (omega arith) in
          let in-line : n < length l = (row_keyed Mode.partial l j n (sym f)).0 in
          let pos : c.at + (n + 1) ≡ equals.at + 1 = omega arith in
          record {
            begins = omega arith;
            equals_in = omega arith;
            ends = omega arith;
            line_kept = ap (λ (x : Cursor). x.line) eq;
            next_at = na;
            next_line = ap (λ (x : Cursor). x.line) en;
            lines = rw (na, ee) (lines_at lt);
            row = λ m. rw (ee, ek) ((row_keyed m l j n (sym f)).1 ∙ ap (row_of_value m j) (drop_part s c.at stop (n + 1) ∙ ap (λ (x : ℕ). part s x stop) pos));
          }

-- ---- the reading of what is left of a sheet, by the line that begins there

unrowed : (st : State) (i : ℕ) (m : Mode) (ls : List (List ℕ)) → line_read st i [] (reading m ls) ≡ reads st 3 i
unfolding fault
unrowed st i m ls = refl

-- a line that another part follows
reading_on_law : (m : Mode) (st : State) (i : ℕ) (l : List ℕ) (ls : List (List ℕ)) → 1 ≤ length ls → reading_on m (l ∷ ls) st i ≡ line_read st i (row_of m l) (reading m ls)
reading_on_law m st i l [] h = absurd (omega arith)
reading_on_law m st i l (n ∷ ls) h = refl

-- a part that no line end follows
reading_last : (m : Mode) (st : State) (i : ℕ) (l : List ℕ) → 1 ≤ length l → reading_on m (l ∷ []) st i ≡ reads st 3 i
reading_last m st i [] h = absurd (omega arith)
reading_last m st i (x ∷ l) h = refl

module _ (s : List ℕ) (c : Cursor) (m : Mode) (st : State) (i : ℕ) where
  pub reading_entry : (k : ℕ) (equals : Cursor) (e : ℕ) (next : Cursor) → L.TheVariants.Entry k equals e next ≡ line_at s c
      → reading_on m (split 10 (drop c.at s)) st i ≡ line_read st i (row_of_value m k (part s (equals.at + 1) e)) (reading m (split 10 (drop next.at s)))
  reading_entry k equals e next q =
      let w = line_entered s c k equals e next q in
      let ls = split 10 (drop next.at s) in
      rw w.lines (reading_on_law m st i (part s c.at e) ls (omega (arith, ap length (split_parts 10 (drop next.at s))))
      ∙ ap (λ (r : List ℕ). line_read st i r (reading m ls)) (w.row m))

  pub reading_end : L.TheVariants.End ≡ line_at s c → reading_on m (split 10 (drop c.at s)) st i ≡ ending st i
  unfolding line_to stop
  reading_end q = go (ltb (stop s c) (length s)) (ltb c.at (length s)) refl (heading_of (part s c.at (stop s c))) q
    where
      Goal : Type 0
      Goal = reading_on m (split 10 (drop c.at s)) st i ≡ ending st i

      other : L.TheVariants.End ≡ L.TheVariants.Faulty → Goal
      other y = let z : ◌≡◌ {A = ℕ} 0 1 = cc in absurd (omega arith)

      go : (t u : Bool) → ltb c.at (length s) ≡ u → (h : Heading) → L.TheVariants.End ≡ cond t (entered c (stop s c) h) (cond u L.TheVariants.Faulty L.TheVariants.End) → Goal
      go true u d (Some (j, n)) y = let z : ◌≡◌ {A = ℕ} 0 1 = cc in absurd (omega arith)
      go true u d None y = other y
      go false true d h y = other y
      go false false d h y = rw (drop_of_length-le s (ltb-false c.at (length s) d)) refl

  pub reading_faulty : L.TheVariants.Faulty ≡ line_at s c → reading_on m (split 10 (drop c.at s)) st i ≡ reads st 3 i
  unfolding line_to stop
  reading_faulty q = go (ltb (stop s c) (length s)) (ltb c.at (length s)) refl refl (heading_of (part s c.at (stop s c))) refl q
    where
      Goal : Type 0
      Goal = reading_on m (split 10 (drop c.at s)) st i ≡ reads st 3 i

      go : (t u : Bool) → ltb (stop s c) (length s) ≡ t → ltb c.at (length s) ≡ u → (h : Heading) → heading_of (part s c.at (stop s c)) ≡ h
          → L.TheVariants.Faulty ≡ cond t (entered c (stop s c) h) (cond u L.TheVariants.Faulty L.TheVariants.End) → Goal
      go true u d e (Some (j, n)) f y = let z : ◌≡◌ {A = ℕ} 0 1 = cc in absurd (omega arith)
      go true u d e None f y =
          let lt : stop s c < length s = ltb-true (stop s c) (length s) d in
          let l : List ℕ = part s c.at (stop s c) in
          let ls = split 10 (drop (stop s c + 1) s) in
          rw (lines_at s c lt) (reading_on_law m st i l ls (omega (arith, ap length (split_parts 10 (drop (stop s c + 1) s))))
          ∙ ap (λ (r : List ℕ). line_read st i r (reading m ls)) (row_malformed m l (sym f)) ∙ unrowed st i m ls)
      go false true d e h f y =
          let lt : c.at < length s = ltb-true c.at (length s) e in
          let le : length s ≤ stop s c = ltb-false (stop s c) (length s) d in
          let l : List ℕ = part s c.at (stop s c) in
          let se : stop s c ≤ length s = found_le 10 s c.at (stop s c) (omega arith) refl in
          let n : length l ≡ stop s c - c.at = length_part s c.at (stop s c) se in
          rw (lines_last s c le (omega arith)) (reading_last m st i l (omega arith))
      go false false d e h f y = let z : ◌≡◌ {A = ℕ} 0 1 = cc in absurd (omega arith)

-- ---- each case of an answer

pub line_read_law : (s : List ℕ) (c : Cursor) (r : L.Line) → r ≡ line_at s c → LineRead s c r
line_read_law s c (L.TheVariants.Entry k equals e next) q = record { is = q; reads_on = λ m st i. reading_entry s c m st i k equals e next q }
line_read_law s c L.TheVariants.Faulty q = record { is = q; reads_on = λ m st i. reading_faulty s c m st i q }
line_read_law s c L.TheVariants.End q = record { is = q; reads_on = λ m st i. reading_end s c m st i q }

pub item_read : (s : List ℕ) (c : Cursor) (r : Item) → r ≡ item_at s c → ItemRead s c r
item_read s c (Some (e, next)) q = record { is = q; items = (items_part s c e next q).items }
item_read s c None q = record { is = q; items = items_end s c q }

pub number_read : (s : List ℕ) (c : Cursor) (r : Counted) → r ≡ number_at s c → NumberRead s c r
unfolding number_at
number_read s c r e = record { is = e; index_is = go (dec_lt (length s) c.at) ∙ ap index_by (sym e) }
  where
    by_index : (k : ℕ) (o : Option ℕ) → o ≡ index_by (handed c (told k o))
    by_index k none = refl
    by_index k (some n) = refl

    go : Dec (length s < c.at) → first_index (items_at s c) ≡ index_by (number_at s c)
    go (yes d) = rw (from_end 44 s c.at d, lt-leb c.at (length s) d) refl
    go (no d) =
        let h : c.at ≤ length s = omega arith in
        ap first_index (items_first s c h) ∙ ap index (part_lead s c)
        ∙ rw (le-leb c.at (length s) h) (by_index (up_to 44 (drop c.at s)) (index (lead (drop c.at s))))
