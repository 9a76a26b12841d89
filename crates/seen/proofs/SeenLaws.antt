-- Rows that must differ, told apart by their numbers. Assumes nothing.
use mathlib.Core.Path.{◌≡◌, refl, sym, ap, subst, ◌∙◌}
use mathlib.Core.Bool.{Bool, true, false, cond, not, ◌||◌}
use mathlib.Core.List.{List, [], ◌∷◌, ◌++◌}
use mathlib.Core.Logic.{◌⊎◌, inl, inr, ⊎_elim}
use Prim.Native.Nat.{ℕ, ◌+◌, ◌/◌, ◌%◌, ◌≤◌, ◌<◌}
use native.Mathlib.Numerals.{add-one}
use native.Mathlib.Omega.{arith}
use borrow.Author.Tests.{eq-eqb, ne_eqb, not-true}
use lib.Dec.{eqb}
use lib.ListN.{length, get_or, drop, drop_of_length-le}
use lib.Seq.{drop-cons}
use Rattle.cedar.proofs.Tools.{no_true, and_both}
use Rattle.words.specs.Bits.{member, added}
use Rattle.words.proofs.Bits.{added_is, length_added}
use Rattle.sheet.specs.Bytes.{same}
use Rattle.sheet.specs.Forms.{form_of, tag, key_of, TEXT, TYPE, VALUE}
use Rattle.sheet.specs.State.{State, lines_of}
use Rattle.sheet.specs.Sheet.{among, more}
use Rattle.sheet.proofs.reading.RowTests.{same_is}
use Rattle.sheet.proofs.reading.Lines.{lines_more}
use Rattle.table.specs.Layout.{part, rows_of, text_row, row_in}
use Rattle.seen.specs.Seen.{PLACES, PLACE_WORDS, mixed, mixed_on, place_of, differ, unseen, with_seen, Seen, Unlike}

-- ---- the number of a row, word by word

-- what is left from entry i on gives the whole
pub record Mixing (whole : ℕ) (l : List ℕ) (sum i : ℕ) : Type 0 where
  pub left : whole ≡ mixed_on sum (drop i l)

pub mixing_words : (l : List ℕ) (t : ℕ) → t ≡ tag l → Mixing (mixed_on (tag l) (drop 1 l)) l t 1
mixing_words l t e = record { left = ap (λ (x : ℕ). mixed_on x (drop 1 l)) (sym e) }

pub mixing_bytes : (l : List ℕ) (t : ℕ) → Mixing (mixed_on t l) l t 0
mixing_bytes l t = record { left = refl }

module _ (w : ℕ) (l : List ℕ) (sum i : ℕ) (h : Mixing w l sum i) where
  pub mixing_on : i < length l → (next : ℕ) → next ≡ mixed sum (get_or l i 0) → Mixing w l next (i + 1)
  unfolding mixed_on
  mixing_on n next e = record { left = h.left ∙ rw (drop-cons l i 0 n, e, add-one i) refl }

  pub mixing_end : length l ≤ i → sum ≡ w
  unfolding mixed_on
  mixing_end n = sym (h.left ∙ rw (drop_of_length-le l n) refl)

-- ---- `see`

module _ (m : List ℕ) (p : ℕ) (b : Bool) (e : b ≡ member m p) where
  pub see_there : b ≡ true → false ≡ not (member m p)
  see_there h = ap not (sym h ∙ e)

  pub see_new : b ≡ false → true ≡ not (member m p)
  see_new h = ap not (sym h ∙ e)

-- ---- `see_line`

pub key_alike : (sheet q : List ℕ) → key_of (row_in sheet (key_of q) q) ≡ key_of q
unfolding key_of
key_alike sheet q = go (eqb (key_of q) TEXT)
  where
    go : (b : Bool) → (form_of (tag (cond b (text_row sheet q) q))).key ≡ (form_of (tag q)).key
    go true = refl
    go false = refl

module _ (m row : List ℕ) where
  seen_as : (p : ℕ) → place_of row ≡ p → differ (key_of row) ≡ true → (b : Bool) (m' : List ℕ) → b ≡ not (member m p) → m' ≡ added m p → (b ≡ unseen m row) × (m' ≡ with_seen m row)
  unfolding unseen with_seen
  seen_as p e d b m' hb hm = (hb ∙ sym (rw (d, e) refl), hm ∙ sym (rw (d, e) refl))

  seen_else : differ (key_of row) ≡ false → (false ≡ unseen m row) × (m ≡ with_seen m row)
  unfolding unseen with_seen
  seen_else d = (sym (rw d refl), sym (rw d refl))

module _ (sheet r m : List ℕ) (k : ℕ) (hk : k ≡ key_of r) where
  key_is : key_of (row_in sheet (key_of r) r) ≡ k
  key_is = key_alike sheet r ∙ sym hk

  row_else : (k ≡ TEXT → ⊥) → row_in sheet (key_of r) r ≡ r
  row_else n = rw (ne_eqb (key_of r) TEXT (λ q. n (hk ∙ q))) refl

  pub see_text : k ≡ TEXT → (t : ℕ) → t ≡ tag r → (s n h : ℕ) (x : List ℕ) → s ≡ get_or r 1 0 → n ≡ get_or r 2 0 → x ≡ part sheet s (s + n) → h ≡ mixed_on t x → (b : Bool) (m' : List ℕ) → b ≡ not (member m (h % PLACES)) → m' ≡ added m (h % PLACES)
      → (b ≡ unseen m (row_in sheet (key_of r) r)) × (m' ≡ with_seen m (row_in sheet (key_of r) r))
  unfolding place_of differ
  see_text e t ht s n h x hs hn hx hh =
      let row : row_in sheet (key_of r) r ≡ t ∷ x = rw (eq-eqb (key_of r) TEXT (sym hk ∙ e), hx, hs, hn, ht) refl in
      seen_as m (row_in sheet (key_of r) r) (h % PLACES) (ap place_of row ∙ ap (λ (y : ℕ). y % PLACES) (sym hh)) (ap differ (key_is ∙ e))

  see_words : differ k ≡ true → (k ≡ TEXT → ⊥) → (h : ℕ) → h ≡ mixed_on (tag r) (drop 1 r) → (b : Bool) (m' : List ℕ) → b ≡ not (member m (h % PLACES)) → m' ≡ added m (h % PLACES)
      → (b ≡ unseen m (row_in sheet (key_of r) r)) × (m' ≡ with_seen m (row_in sheet (key_of r) r))
  unfolding place_of
  see_words d n h hh = seen_as m (row_in sheet (key_of r) r) (h % PLACES) (ap place_of (row_else n) ∙ ap (λ (y : ℕ). y % PLACES) (sym hh)) (ap differ key_is ∙ d)

  pub see_type : k ≡ TYPE → (h : ℕ) → h ≡ mixed_on (tag r) (drop 1 r) → (b : Bool) (m' : List ℕ) → b ≡ not (member m (h % PLACES)) → m' ≡ added m (h % PLACES)
      → (b ≡ unseen m (row_in sheet (key_of r) r)) × (m' ≡ with_seen m (row_in sheet (key_of r) r))
  unfolding differ
  see_type e = see_words (ap differ e) (λ q. absurd (omega arith))

  pub see_value : k ≡ VALUE → (h : ℕ) → h ≡ mixed_on (tag r) (drop 1 r) → (b : Bool) (m' : List ℕ) → b ≡ not (member m (h % PLACES)) → m' ≡ added m (h % PLACES)
      → (b ≡ unseen m (row_in sheet (key_of r) r)) × (m' ≡ with_seen m (row_in sheet (key_of r) r))
  unfolding differ
  see_value e = see_words (ap differ e) (λ q. absurd (omega arith))

  pub see_other : (k ≡ TEXT → ⊥) → (k ≡ TYPE → ⊥) → (k ≡ VALUE → ⊥) → (false ≡ unseen m (row_in sheet (key_of r) r)) × (m ≡ with_seen m (row_in sheet (key_of r) r))
  unfolding differ
  see_other x y z = seen_else m (row_in sheet (key_of r) r) (ap differ key_is ∙ rw (ne_eqb k TEXT x, ne_eqb k TYPE y, ne_eqb k VALUE z) refl)

-- ---- a row that is new

pub unlike_new : (r : List ℕ) (rows : List (List ℕ)) (new : Bool) → Unlike r rows new → new ≡ true → true ≡ not (among r rows)
unlike_new r rows new u e = sym (ap not (u.none e))

pub row_new : (r : List ℕ) (rows : List (List ℕ)) (b : Bool) → b ≡ among r rows → not b ≡ not (among r rows)
row_new r rows b e = ap not e

pub unlike_key : (r a : List ℕ) (k j : ℕ) (new : Bool) → k ≡ j → Unlike r (rows_of a k) new → Unlike r (rows_of a j) new
unlike_key r a k j new e u = subst (λ (x : ℕ). Unlike r (rows_of a x) new) e u

pub unlike_seen : (s : State) (m row : List ℕ) (new : Bool) → Seen s m → new ≡ unseen m row → Unlike row (lines_of s (key_of row)) new
unfolding unseen
unlike_seen s m row new seen e =
    record {
      none = λ q. and_both (differ (key_of row)) (not (member m (place_of row))) (sym e ∙ q) (λ d n.
          go d (not-true (member m (place_of row)) n) (among row (lines_of s (key_of row))) refl);
    }
  where
    go : differ (key_of row) ≡ true → member m (place_of row) ≡ false → (t : Bool) → among row (lines_of s (key_of row)) ≡ t → t ≡ false
    go d n false a = refl
    go d n true a = no_true (sym n ∙ seen.has (key_of row) row d a)

-- ---- a line more

among_last : (r x : List ℕ) (l : List (List ℕ)) → among r (l ++ (x ∷ [])) ≡ true → (among r l ≡ true) ⊎ (r ≡ x)
among_last r x [] e = go (same r x) refl e
  where
    go : (t : Bool) → same r x ≡ t → (t || false) ≡ true → (false ≡ true) ⊎ (r ≡ x)
    go true h q = inr (same_is r x h)
    go false h q = no_true q
among_last r x (y ∷ l) e = go (same r y) (among_last r x l) e
  where
    go : (t : Bool) → (among r (l ++ (x ∷ [])) ≡ true → (among r l ≡ true) ⊎ (r ≡ x)) → (t || among r (l ++ (x ∷ []))) ≡ true → ((t || among r l) ≡ true) ⊎ (r ≡ x)
    go true f q = inl refl
    go false f q = f q

place_low : (r : List ℕ) → place_of r / 32 < PLACE_WORDS
unfolding place_of
place_low r = omega arith

module _ (m row : List ℕ) where
  seen_keeps : (p : ℕ) → member m p ≡ true → member (with_seen m row) p ≡ true
  unfolding with_seen
  seen_keeps p e = go (differ (key_of row))
    where
      go : (d : Bool) → member (cond d (added m (place_of row)) m) p ≡ true
      go true = (added_is m (place_of row)).kept p e
      go false = e

  seen_own : differ (key_of row) ≡ true → PLACE_WORDS ≤ length m → member (with_seen m row) (place_of row) ≡ true
  unfolding with_seen
  seen_own d l = rw d ((added_is m (place_of row)).here (omega (arith, place_low row, l)))

  seen_long : length (with_seen m row) ≡ length m
  unfolding with_seen
  seen_long = go (differ (key_of row))
    where
      go : (d : Bool) → length (cond d (added m (place_of row)) m) ≡ length m
      go true = length_added m (place_of row)
      go false = refl

pub seen_more : (s : State) (m row : List ℕ) → Seen s m → Seen (more s row) (with_seen m row)
seen_more s m row seen =
    record {
      long = omega (arith, seen_long m row, seen.long);
      has = λ k r d e. lines_more s row k
          (λ q. seen_keeps m row (place_of r) (seen.has k r d (ap (among r) (sym q) ∙ e)))
          (λ o q. ⊎_elim
          (λ i. seen_keeps m row (place_of r) (seen.has k r d i))
          (λ i. subst (λ (x : List ℕ). member (with_seen m row) (place_of x) ≡ true) (sym i) (seen_own m row (ap differ (sym o) ∙ d) seen.long))
          (among_last r row (lines_of s k) (ap (among r) (sym q) ∙ e)));
    }

pub seen_first : (s : State) (m : List ℕ) → ((k : ℕ) → lines_of s k ≡ []) → PLACE_WORDS ≤ length m → Seen s m
seen_first s m none l = record { long = l; has = λ k r d e. no_true (ap (among r) (sym (none k)) ∙ e) }
