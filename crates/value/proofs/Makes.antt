-- Finding and making a value, as the code does it. Assumes nothing.
use mathlib.Core.Path.{◌≡◌, refl, sym, ap, ◌∙◌}
use mathlib.Core.Bool.{Bool, true, false, not, cond, ◌&&◌, and-eq-true_iff}
use mathlib.Core.List.{List, [], ◌∷◌, ◌++◌}
use Prim.Native.Nat.{ℕ, suc, ◌+◌, ◌≤◌, ◌<◌}
use native.Mathlib.Omega.{arith}
use borrow.Author.Tests.{lt-ltb, le-ltb, ltb-true, le-leb, lt-leb, leb-true, not-true, not-false}
use lib.Dec.{ltb, leb}
use lib.ListN.{length, get_or, drop, take}
use lib.Seq.{sets}
use Rattle.words.proofs.Stores.{take_sets, get_d_below}
use Rattle.sheet.specs.Bytes.{same}
use Rattle.sheet.specs.Forms.{VALUE}
use Rattle.table.specs.Layout.{MADE, TOP, heap, rows_of, with_row}
use Rattle.table.proofs.Rows.{count_rows}
use Rattle.forms.specs.Tags.{BOOL_VALUE}
use Rattle.value.specs.Lines.{value_lines, place_of}
use Rattle.value.specs.Made.{bool_row, room_for, narrow, number_of, with_made, with_value, Made}
use Rattle.value.proofs.Lists.{uncons, spent}

-- ---- finding

pub place_most : (r : List ℕ) (rows : List (List ℕ)) → place_of r rows ≤ length rows
unfolding place_of
place_most r [] = omega arith
place_most r (q ∷ rows) = go (same q r) (place_most r rows)
  where
    go : (b : Bool) → place_of r rows ≤ length rows → cond b 0 (suc (place_of r rows)) ≤ suc (length rows)
    go true h = omega arith
    go false h = omega arith

-- the search has come to row i of n
pub record Finding (r : List ℕ) (rows : List (List ℕ)) (n i : ℕ) : Type 0 where
  pub all : n ≡ length rows
  pub near : i ≤ n
  pub left : place_of r rows ≡ i + place_of r (drop i rows)

pub find_start : (r : List ℕ) (rows : List (List ℕ)) (n : ℕ) → n ≡ length rows → Finding r rows n 0
find_start r rows n e = record { all = e; near = omega arith; left = omega arith }

module _ (r : List ℕ) (rows : List (List ℕ)) (n i : ℕ) (g : Finding r rows n i) where
  pub find_end : n ≤ i → n ≡ place_of r rows
  unfolding place_of
  find_end h = sym (g.left ∙ rw (spent rows i (omega (arith, g.all))) (omega (arith, g.near)))

  module _ (h : i < n) (q : List ℕ) (eq : q ≡ get_or rows i []) (b : Bool) (eb : b ≡ same q r) where
    at_row : place_of r (drop i rows) ≡ cond b 0 (suc (place_of r (drop (i + 1) rows)))
    unfolding place_of
    at_row = rw (uncons rows [] i (omega (arith, g.all)), ← eq, ← eb)

    pub find_hit : b ≡ true → i ≡ place_of r rows
    find_hit e =
        let z : place_of r (drop i rows) ≡ 0 = at_row ∙ rw e in
        omega (arith, g.left)

    pub find_on : b ≡ false → Finding r rows n (i + 1)
    find_on e =
        let z : place_of r (drop i rows) ≡ suc (place_of r (drop (i + 1) rows)) = at_row ∙ rw e in
        record { all = g.all; near = omega arith; left = omega (arith, g.left) }

-- ---- finding among the rows of a key

pub rows_start : (r a : List ℕ) (k n : ℕ) → n ≡ get_or a k 0 → Finding r (rows_of a k) n 0
rows_start r a k n e = find_start r (rows_of a k) n (e ∙ sym (count_rows a k))

-- ---- finding among two lists of rows

place_first : (r : List ℕ) (x y : List (List ℕ)) → place_of r x < length x → place_of r x ≡ place_of r (x ++ y)
unfolding place_of
place_first r [] y h = absurd (omega arith)
place_first r (q ∷ x) y h = go (same q r) h (place_first r x y)
  where
    go : (b : Bool) → cond b 0 (suc (place_of r x)) < suc (length x) → (place_of r x < length x → place_of r x ≡ place_of r (x ++ y)) → cond b 0 (suc (place_of r x)) ≡ cond b 0 (suc (place_of r (x ++ y)))
    go true l ih = refl
    go false l ih = ap suc (ih (omega arith))

place_second : (r : List ℕ) (x y : List (List ℕ)) → length x ≤ place_of r x → length x + place_of r y ≡ place_of r (x ++ y)
unfolding place_of
place_second r [] y h = omega arith
place_second r (q ∷ x) y h = go (same q r) h (place_second r x y)
  where
    go : (b : Bool) → suc (length x) ≤ cond b 0 (suc (place_of r x)) → (length x ≤ place_of r x → length x + place_of r y ≡ place_of r (x ++ y))
        → suc (length x) + place_of r y ≡ cond b 0 (suc (place_of r (x ++ y)))
    go true l ih = absurd (omega arith)
    go false l ih = let z : length x + place_of r y ≡ place_of r (x ++ y) = ih (omega arith) in omega arith

pub found_most : (r a : List ℕ) (k v : ℕ) → v ≡ place_of r (rows_of a k) → v ≤ get_or a k 0
found_most r a k v e = omega (arith, place_most r (rows_of a k), count_rows a k)

module _ (a r : List ℕ) (n v : ℕ) (en : n ≡ get_or a VALUE 0) (ev : v ≡ place_of r (rows_of a VALUE)) where
  pub find_given : v < n → v ≡ place_of r (value_lines a)
  unfolding value_lines
  find_given h = ev ∙ place_first r (rows_of a VALUE) (rows_of a MADE) (omega (arith, count_rows a VALUE))

  pub find_made : (w : ℕ) → n ≤ v → w ≡ place_of r (rows_of a MADE) → n + w ≡ place_of r (value_lines a)
  unfolding value_lines
  find_made w h ew =
      let z : n + w ≡ length (rows_of a VALUE) + place_of r (rows_of a MADE) = omega (arith, count_rows a VALUE) in
      z ∙ place_second r (rows_of a VALUE) (rows_of a MADE) (omega (arith, count_rows a VALUE))

-- ---- room

module _ (a : List ℕ) (n : ℕ) where
  pub room_made : (m : ℕ) → m ≡ get_or a MADE 0 → 1024 ≤ m → false ≡ room_for a n
  unfolding room_for
  room_made m e h = rw (← e, le-ltb m 1024 h)

  module _ (m t : ℕ) (em : m ≡ get_or a MADE 0) (hm : m < 1024) (et : t ≡ get_or a TOP 0) where
    pub room_low : t < heap → false ≡ room_for a n
    unfolding room_for
    room_low h = rw (← em, lt-ltb m 1024 hm, ← et, lt-leb heap t h)

    pub room_long : heap ≤ t → 16384 < n → false ≡ room_for a n
    unfolding room_for
    room_long h k = rw (← em, lt-ltb m 1024 hm, ← et, le-leb heap t h, lt-leb (t + n) 16384 (omega arith))

    pub room_test : heap ≤ t → leb (t + n) 16384 ≡ room_for a n
    unfolding room_for
    room_test h = rw (← em, lt-ltb m 1024 hm, ← et, le-leb heap t h)

-- what room means
pub record HasRoom (a : List ℕ) (n : ℕ) : Type 0 where
  pub few : get_or a MADE 0 < 1024
  pub over : heap ≤ get_or a TOP 0
  pub fits : get_or a TOP 0 + n ≤ 16384

pub room_is : (a : List ℕ) (n : ℕ) → room_for a n ≡ true → HasRoom a n
unfolding room_for
room_is a n e =
    let p = (and-eq-true_iff (ltb (get_or a MADE 0) 1024) (leb heap (get_or a TOP 0) && leb (get_or a TOP 0 + n) 16384)).0 e in
    let q = (and-eq-true_iff (leb heap (get_or a TOP 0)) (leb (get_or a TOP 0 + n) 16384)).0 p.1 in
    record { few = ltb-true (get_or a MADE 0) 1024 p.0; over = leb-true heap (get_or a TOP 0) q.0; fits = leb-true (get_or a TOP 0 + n) 16384 q.1 }

-- ---- a number as a word

pub narrow_in : (v : ℕ) → v < 4294967296 → v ≡ narrow v
unfolding narrow
narrow_in v h = rw (lt-ltb v 4294967296 h)

pub narrow_out : (v : ℕ) → 4294967296 ≤ v → 0 ≡ narrow v
unfolding narrow
narrow_out v h = rw (le-ltb v 4294967296 h)

-- ---- adding

module _ (a r : List ℕ) (h : room_for a (length r) ≡ true) (t : ℕ) (et : t ≡ get_or a TOP 0) where
  pub add_fits : t + length r ≤ 16384
  add_fits = omega (arith, (room_is a (length r) h).fits)

  -- storing past the heap's end leaves the number of made values
  pub add_few : (w : List ℕ) → w ≡ sets a t r → get_or w MADE 0 < 4294967295
  add_few w e =
      let o = room_is a (length r) h in
      let k : get_or w MADE 0 ≡ get_or a MADE 0 = get_d_below (get_or a TOP 0) a w (ap (take (get_or a TOP 0)) e ∙ take_sets r a (get_or a TOP 0) t (omega arith)) MADE (omega (arith, o.over)) in
      omega (arith, o.few)

  pub add_is : (w w' : List ℕ) → w ≡ sets a t r → w' ≡ with_row w MADE (t + length r) → w' ≡ with_made a r
  unfolding with_made
  add_is w w' e e' = rw (e', e, et)

-- ---- making

module _ (a r : List ℕ) (v n : ℕ) (ev : v ≡ place_of r (value_lines a)) (en : n ≡ length (value_lines a)) (x : ℕ) (ex : x ≡ narrow v) where
  number_is : x ≡ number_of a r
  unfolding number_of
  number_is = rw (ex, ev)

  pub make_found : v < n → Made a r a x
  unfolding with_value
  make_found h = record { words = rw (← ev, ← en, lt-ltb v n h); number = number_is }

  pub make_full : (b : Bool) → n ≤ v → b ≡ room_for a (length r) → not b ≡ true → Made a r a x
  unfolding with_value
  make_full b h eb f =
      let z : room_for a (length r) ≡ false = sym eb ∙ not-true b f in
      record { words = rw (← ev, ← en, le-ltb v n h, z); number = number_is }

  pub make_added : (b : Bool) (w : List ℕ) → n ≤ v → b ≡ room_for a (length r) → not b ≡ false → w ≡ with_made a r → Made a r w x
  unfolding with_value
  make_added b w h eb f ew =
      let z : room_for a (length r) ≡ true = sym eb ∙ not-false b f in
      record { words = rw (← ev, ← en, le-ltb v n h, z) ew; number = number_is }

-- ---- bools
