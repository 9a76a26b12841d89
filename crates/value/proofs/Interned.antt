-- Finding or making a row of words is finding or making the value's row: what `made` values are. Assumes nothing.
use mathlib.Core.Path.{◌≡◌, refl, sym, ap, ap₂, ◌∙◌}
use mathlib.Core.Bool.{Bool, true, false, not, cond, ◌||◌}
use mathlib.Core.Option.{Option, none, some}
use mathlib.Core.List.{List, [], ◌∷◌, ◌++◌, append_assoc}
use Prim.Native.Nat.{ℕ, suc, ◌+◌, ◌*◌, ◌/◌, ◌%◌, ◌≤◌, ◌<◌}
use native.Mathlib.Omega.{arith}
use native.Mathlib.Decide.{dec_lt}
use borrow.Author.Tests.{lt-ltb, le-ltb, ltb-false}
use lib.Dec.{ltb}
use lib.ListN.{length, get_or, take, drop, length-append}
use lib.Seq.{sets, length-sets}
use Rattle.words.proofs.Stores.{take_sets, part_sets}
use Rattle.cedar.specs.Rows.{rlong, same_row}
use Rattle.cedar.specs.Making.{one_later, pick_row, find_row, or_add, intern}
use Rattle.cedar.proofs.TableLaws.{same_row_true, same_row_refl}
use Rattle.sheet.specs.Bytes.{same, long_at}
use Rattle.sheet.specs.Forms.{VALUE}
use Rattle.sheet.specs.State.{value_row, entries_of}
use Rattle.sheet.specs.Content.{rows_in}
use Rattle.sheet.proofs.demand3.TwoSheets.{same_is}
use Rattle.sheet.proofs.content.ValueRows.{back, flat, word_back, same_refl, rows_length, rows_snoc}
use Rattle.table.specs.Layout.{part, rows_of, MADE, TOP, with_row, limits, limit, Last, Sound}
use Rattle.table.proofs.Rows.{count_rows, limit_small}
use Rattle.table.proofs.Frame.{word_kept, rows_kept, sound_kept, top_new, count_new, rows_other, rows_own, sound_new}
use Rattle.forms.specs.Tags.{LONG_VALUE, RECORD_VALUE}
use Rattle.value.specs.Lines.{value_lines, place_of}
use Rattle.value.specs.Made.{bool_row, long_row, entity_row, room_for, narrow, number_of, with_made, with_value, set_row, pairs_of, record_row}
use Rattle.value.proofs.Makes.{place_most, HasRoom, room_is}

-- ---- rows that say all that their words say

-- the words of a row are those that its value is written with
abbrev pub Formed : List ℕ → Type 0
Formed r = back (value_row r) ≡ r

pub data Formeds : List (List ℕ) → Type 0 where
  none_formed : Formeds []
  one_formed : {r : List ℕ} {rows : List (List ℕ)} → Formed r → Formeds rows → Formeds (r ∷ rows)

pub formeds_more : {rows : List (List ℕ)} {r : List ℕ} → Formeds rows → Formed r → Formeds (rows ++ (r ∷ []))
formeds_more none_formed h = one_formed h none_formed
formeds_more (one_formed e f) h = one_formed e (formeds_more f h)

pub formed_bool : (b : Bool) → Formed (bool_row b)
formed_bool true = refl
formed_bool false = refl

long_joined : (w : ℕ) → w / 4294967296 * 4294967296 + w % 4294967296 ≡ w
long_joined w = omega arith

pub long_row_law : (w : ℕ) → value_row (long_row w) ≡ rlong (long_at w)
long_row_law w = ap (λ (n : ℕ). rlong (long_at n)) (long_joined w)

pub formed_long : (w : ℕ) → Formed (long_row w)
formed_long w = ap back (long_row_law w) ∙ ap (λ (n : ℕ). LONG_VALUE ∷ n / 4294967296 ∷ n % 4294967296 ∷ []) (word_back w)

pub formed_entity : (k t : ℕ) → Formed (entity_row k t)
formed_entity k t = refl

pub formed_set : (rows : List ℕ) → Formed (set_row rows)
unfolding set_row
formed_set rows = refl

flat_pairs : (l rows : List ℕ) → flat (entries_of (pairs_of l rows)) ≡ pairs_of l rows
unfolding pairs_of
flat_pairs [] rows = refl
flat_pairs (t ∷ []) rows = refl
flat_pairs (t ∷ n ∷ l) [] = refl
flat_pairs (t ∷ n ∷ l) (a ∷ []) = refl
flat_pairs (t ∷ n ∷ l) (a ∷ b ∷ []) = refl
flat_pairs (t ∷ n ∷ l) (a ∷ b ∷ c ∷ []) = refl
flat_pairs (t ∷ n ∷ l) (a ∷ b ∷ c ∷ d ∷ rows) = ap (λ (x : List ℕ). t ∷ b ∷ x) (flat_pairs l rows)

pub formed_record : (r rows : List ℕ) → Formed (record_row r rows)
unfolding record_row
formed_record r rows = ap (λ (x : List ℕ). RECORD_VALUE ∷ x) (flat_pairs (drop 2 r) rows)

-- ---- the same words, the same row

pub same_row_law : (q r : List ℕ) → Formed q → Formed r → same q r ≡ same_row (value_row q) (value_row r)
same_row_law q r hq hr = go (same q r) (same_row (value_row q) (value_row r)) refl refl
  where
    go : (b c : Bool) → same q r ≡ b → same_row (value_row q) (value_row r) ≡ c → b ≡ c
    go true true eb ec = refl
    go true false eb ec =
        let p : q ≡ r = same_is q r eb in
        sym (same_row_refl (value_row r)) ∙ ap (λ (x : List ℕ). same_row (value_row x) (value_row r)) (sym p) ∙ ec
    go false true eb ec =
        let p : value_row q ≡ value_row r = same_row_true (value_row q) (value_row r) ec in
        let z : q ≡ r = sym hq ∙ ap back p ∙ hr in
        sym eb ∙ ap (λ (x : List ℕ). same x r) z ∙ same_refl r
    go false false eb ec = refl

-- where a row is found
found_at : ℕ → ℕ → Option ℕ
found_at p n = cond (ltb p n) (some p) none

one_later_found : (p n : ℕ) → one_later (found_at p n) ≡ found_at (suc p) (suc n)
unfolding found_at
one_later_found p n = go (dec_lt p n)
  where
    go : Dec (p < n) → one_later (cond (ltb p n) (some p) none) ≡ cond (ltb (suc p) (suc n)) (some (suc p)) none
    go (yes h) = rw (lt-ltb p n h, lt-ltb (suc p) (suc n) (omega arith))
    go (no h) = rw (le-ltb p n (omega arith), le-ltb (suc p) (suc n) (omega arith))

find_is : {rows : List (List ℕ)} (r : List ℕ) → Formeds rows → Formed r → find_row (value_row r) (rows_in rows) ≡ found_at (place_of r rows) (length rows)
unfolding found_at place_of
find_is r none_formed h = refl
find_is r (one_formed {r = q} {rows = rows} e f) h = ap (λ (b : Bool). pick_row b (find_row (value_row r) (rows_in rows))) (sym (same_row_law q r e h)) ∙ go (same q r) (find_is r f h)
  where
    go : (b : Bool) → find_row (value_row r) (rows_in rows) ≡ found_at (place_of r rows) (length rows)
        → pick_row b (find_row (value_row r) (rows_in rows)) ≡ found_at (cond b 0 (suc (place_of r rows))) (suc (length rows))
    go true ih = rw (lt-ltb 0 (suc (length rows)) (omega arith))
    go false ih = ap one_later ih ∙ one_later_found (place_of r rows) (length rows)

-- a list of rows with r in it, and r's number there
pub with_row_in : List ℕ → List (List ℕ) → List (List ℕ)
with_row_in r rows = cond (ltb (place_of r rows) (length rows)) rows (rows ++ (r ∷ []))

module _ {rows : List (List ℕ)} (r : List ℕ) (f : Formeds rows) (h : Formed r) where
  pub intern_rows : rows_in (with_row_in r rows) ≡ (intern (rows_in rows) (value_row r)).rows
  unfolding with_row_in found_at
  intern_rows = rw (find_is r f h) (go (ltb (place_of r rows) (length rows)))
    where
      go : (b : Bool) → rows_in (cond b rows (rows ++ (r ∷ []))) ≡ (or_add (cond b (some (place_of r rows)) none) (rows_in rows) (value_row r)).rows
      go true = refl
      go false = rows_snoc rows r

  pub intern_number : place_of r rows ≡ (intern (rows_in rows) (value_row r)).number
  unfolding found_at
  intern_number = rw (find_is r f h) (go (ltb (place_of r rows) (length rows)) refl)
    where
      go : (b : Bool) → ltb (place_of r rows) (length rows) ≡ b → place_of r rows ≡ (or_add (cond b (some (place_of r rows)) none) (rows_in rows) (value_row r)).number
      go true e = refl
      go false e =
          let m = place_most r rows in
          let n : length rows ≤ place_of r rows = ltb-false (place_of r rows) (length rows) e in
          let p : place_of r rows ≡ length rows = omega arith in
          p ∙ sym (rows_length rows)

  pub with_formed : Formeds (with_row_in r rows)
  unfolding with_row_in
  with_formed = go (ltb (place_of r rows) (length rows))
    where
      go : (b : Bool) → Formeds (cond b rows (rows ++ (r ∷ [])))
      go true = f
      go false = formeds_more f h

-- ---- in the words

-- what making a row in sound words leaves, where it is there or there is room
pub record Kept (a r is : List ℕ) : Type 0 where
  pub sound : Sound is
  pub lines : value_lines is ≡ with_row_in r (value_lines a)
  pub others : (k : ℕ) → k < MADE → rows_of is k ≡ rows_of a k
  pub few : get_or is MADE 0 ≤ suc (get_or a MADE 0)
  pub top : get_or is TOP 0 ≤ get_or a TOP 0 + length r

module _ (a : List ℕ) (s : Sound a) (r : List ℕ) where
  kept_found : ltb (place_of r (value_lines a)) (length (value_lines a)) ≡ true → Kept a r a
  unfolding with_row_in
  kept_found e = record { sound = s; lines = rw e; others = λ k h. refl; few = omega arith; top = omega arith }

  module _ (e : room_for a (length r) ≡ true) where
    abbrev stored : List ℕ
    stored = sets a (get_or a TOP 0) r

    room : HasRoom a (length r)
    room = room_is a (length r) e

    below : take (get_or a TOP 0) stored ≡ take (get_or a TOP 0) a
    below = take_sets r a (get_or a TOP 0) (get_or a TOP 0) (omega arith)

    stored_sound : Sound stored
    stored_sound = sound_kept a s stored below (omega (arith, length-sets a (get_or a TOP 0) r, s.long))

    stored_top : get_or stored TOP 0 ≡ get_or a TOP 0
    stored_top = word_kept a s stored below TOP (omega arith)

    stored_made : get_or stored MADE 0 ≡ get_or a MADE 0
    stored_made = word_kept a s stored below MADE (omega arith)

    few_made : get_or stored MADE 0 < limit MADE
    unfolding limit limits
    few_made = omega (arith, stored_made, room.few)

    none_after : Last stored MADE
    none_after = record { last = λ j l m. absurd (omega arith) }

    over : get_or stored TOP 0 ≤ get_or a TOP 0 + length r
    over = omega (arith, stored_top)

    abbrev end : ℕ
    end = get_or a TOP 0 + length r

    lines_more : value_lines (with_made a r) ≡ value_lines a ++ (r ∷ [])
    unfolding value_lines with_made
    lines_more =
        let p : part stored (get_or stored TOP 0) end ≡ r = rw stored_top (part_sets r a (get_or a TOP 0) end refl (omega (arith, room.fits, s.long))) in
        let q : rows_of (with_row stored MADE end) MADE ≡ rows_of a MADE ++ (r ∷ []) =
        rows_own stored stored_sound MADE end (omega arith) few_made none_after over ∙ ap₂ (λ (xs : List (List ℕ)) (x : List ℕ). xs ++ (x ∷ [])) (rows_kept a s stored below MADE (omega arith)) p in
        let v : rows_of (with_row stored MADE end) VALUE ≡ rows_of a VALUE =
        rows_other stored stored_sound MADE end (omega arith) few_made none_after over VALUE (omega arith) (omega arith) ∙ rows_kept a s stored below VALUE (omega arith) in
        ap₂ (λ (x y : List (List ℕ)). x ++ y) v q ∙ sym (append_assoc (rows_of a VALUE) (rows_of a MADE) (r ∷ []))

    kept_added : ltb (place_of r (value_lines a)) (length (value_lines a)) ≡ false → Kept a r (with_made a r)
    unfolding with_row_in with_made
    kept_added z =
        record {
          sound = sound_new stored stored_sound MADE end (omega arith) few_made none_after over;
          lines = rw z lines_more;
          others = λ k h. rows_other stored stored_sound MADE end (omega arith) few_made none_after over k (omega arith) (omega arith) ∙ rows_kept a s stored below k (omega arith);
          few = omega (arith, count_new stored stored_sound MADE end (omega arith) few_made none_after over, stored_made);
          top = omega (arith, top_new stored stored_sound MADE end (omega arith) few_made none_after over);
        }

  -- with room, or found
  pub value_kept : room_for a (length r) ≡ true → Kept a r (with_value a r)
  unfolding with_value
  value_kept e = go (ltb (place_of r (value_lines a)) (length (value_lines a))) refl
    where
      go : (b : Bool) → ltb (place_of r (value_lines a)) (length (value_lines a)) ≡ b → Kept a r (cond (b || not (room_for a (length r))) a (with_made a r))
      go true z = kept_found z
      go false z = rw e (kept_added e z)

  pub number_place : number_of a r ≡ place_of r (value_lines a)
  unfolding number_of narrow value_lines
  number_place =
      let m = place_most r (value_lines a) in
      let n : length (value_lines a) ≡ get_or a VALUE 0 + get_or a MADE 0 = length-append (rows_of a VALUE) (rows_of a MADE) ∙ ap₂ (λ (x y : ℕ). x + y) (count_rows a VALUE) (count_rows a MADE) in
      rw (lt-ltb (place_of r (value_lines a)) 4294967296 (omega (arith, m, n, s.few VALUE (omega arith), s.few MADE (omega arith), limit_small VALUE, limit_small MADE)))

-- making a row by its words is making its value
pub record Interning (a r : List ℕ) : Type 0 where
  pub kept : Kept a r (with_value a r)
  pub formed : Formeds (value_lines (with_value a r))
  pub rows : rows_in (value_lines (with_value a r)) ≡ (intern (rows_in (value_lines a)) (value_row r)).rows
  pub number : number_of a r ≡ (intern (rows_in (value_lines a)) (value_row r)).number

pub made_is : (a r : List ℕ) → Sound a → Formeds (value_lines a) → Formed r → room_for a (length r) ≡ true → Interning a r
made_is a r s f h e =
    let k = value_kept a s r e in
    record {
      kept = k;
      formed = rw k.lines (with_formed r f h);
      rows = ap rows_in k.lines ∙ intern_rows r f h;
      number = number_place a s r ∙ intern_number r f h;
    }

-- the words stay where the row is found, and no value is found where they do not
pub stays_or_none : {X : Type 0} (a r : List ℕ) → Formeds (value_lines a) → Formed r → (with_value a r ≡ a → X) → (find_row (value_row r) (rows_in (value_lines a)) ≡ none → X) → X
unfolding with_value found_at
stays_or_none {X} a r f h y n = go (ltb (place_of r (value_lines a)) (length (value_lines a))) refl
  where
    go : (b : Bool) → ltb (place_of r (value_lines a)) (length (value_lines a)) ≡ b → X
    go true e = y (ap (λ (b : Bool). cond (b || not (room_for a (length r))) a (with_made a r)) e)
    go false e = n (find_is r f h ∙ ap (λ (b : Bool). cond b (some (place_of r (value_lines a))) none) e)
