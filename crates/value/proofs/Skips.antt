-- A search that begins after the first rows, and the test for how many of the first values are no bools. Assumes nothing.
use mathlib.Core.Path.{◌≡◌, refl, sym, ◌∙◌}
use mathlib.Core.Bool.{Bool, true, false, not, ◌&&◌, and-eq-true_iff}
use mathlib.Core.List.{List, [], ◌∷◌}
use Prim.Native.Nat.{ℕ, ◌+◌, ◌≤◌, ◌<◌}
use native.Mathlib.Omega.{arith}
use borrow.Author.Tests.{lt-ltb, le-ltb, ltb-true, le-leb, lt-leb, leb-true, eqb-false, not-true, not-false}
use lib.Dec.{eqb, leb, ltb}
use lib.ListN.{get_or, length, drop}
use Rattle.forms.specs.Tags.{BOOL_VALUE}
use Rattle.sheet.specs.Forms.{VALUE}
use Rattle.table.specs.Layout.{TOP, heap, base, limit, limits, rows_of}
use Rattle.table.proofs.Rows.{count_rows}
use Rattle.value.specs.Lines.{place_of, Past}
use Rattle.value.specs.Made.{bool_row}
use Rattle.value.specs.Clear.{Clear, clear_at}
use Rattle.value.proofs.Makes.{Finding, place_most}
use Rattle.value.proofs.ClearLaws.{clear_more, clear_place}

-- ---- the search

pub past_start : (r a : List ℕ) (k n i : ℕ) → n ≡ get_or a k 0 → i ≤ length (rows_of a k) → place_of r (rows_of a k) ≡ i + place_of r (drop i (rows_of a k)) → Finding r (rows_of a k) n i
past_start r a k n i e l p = record { all = e ∙ sym (count_rows a k); near = omega (arith, l, count_rows a k); left = p }

past_bool : (a : List ℕ) (skip : ℕ) (b : Bool) → Clear a skip → Past (bool_row b) (rows_of a VALUE) skip
past_bool a skip b c =
    let g = clear_place a skip c b (get_or a VALUE 0) refl in
    record { near = omega (arith, g.near, g.all); left = g.left }

pub past_true : (a : List ℕ) (skip : ℕ) → Clear a skip → Past (BOOL_VALUE ∷ 1 ∷ []) (rows_of a VALUE) skip
past_true a skip c = past_bool a skip true c

pub past_false : (a : List ℕ) (skip : ℕ) → Clear a skip → Past (BOOL_VALUE ∷ 0 ∷ []) (rows_of a VALUE) skip
past_false a skip c = past_bool a skip false c

-- ---- the test of a row

module _ (a : List ℕ) (i s : ℕ) (es : s ≡ get_or a i 0) where
  pub clear_low : s < heap → false ≡ clear_at a i
  unfolding clear_at
  clear_low h = rw (← es, lt-leb heap s h)

  module _ (l : heap ≤ s) (t : ℕ) (et : t ≡ get_or a TOP 0) where
    pub clear_high : t ≤ s → false ≡ clear_at a i
    unfolding clear_at
    clear_high h = rw (← es, le-leb heap s l, ← et, le-ltb s t h)

    pub clear_word : s < t → (w : ℕ) → w ≡ get_or a s 0 → not (eqb w BOOL_VALUE) ≡ clear_at a i
    unfolding clear_at
    clear_word h w ew = rw (← es, le-leb heap s l, ← et, lt-ltb s t h, ← ew)

-- ---- one value more

pub clear_next : (a : List ℕ) (n b i : ℕ) (t : Bool) → n ≡ get_or a VALUE 0 → n ≤ 1024 → b ≡ base VALUE → i < n → Clear a i → t ≡ clear_at a (b + i) → not t ≡ false → Clear a (i + 1)
unfolding clear_at limit limits
clear_next a n b i t en few eb h c et f =
    let s : ℕ = get_or a (b + i) 0 in
    let z : clear_at a (b + i) ≡ true = sym et ∙ not-false t f in
    let p = (and-eq-true_iff (leb heap s && ltb s (get_or a TOP 0)) (not (eqb (get_or a s 0) BOOL_VALUE))).0 z in
    let q = (and-eq-true_iff (leb heap s) (ltb s (get_or a TOP 0))).0 p.0 in
    clear_more a i c n b s (get_or a TOP 0) en eb refl refl (get_or a s 0) h (omega arith) (leb-true heap s q.0) (ltb-true s (get_or a TOP 0) q.1) refl (eqb-false (get_or a s 0) BOOL_VALUE (not-true (eqb (get_or a s 0) BOOL_VALUE) p.1))

-- where the first rows that are others are all rows, none is it
pub past_all : (r a : List ℕ) (k n i : ℕ) → n ≡ get_or a k 0 → place_of r (rows_of a k) ≡ i + place_of r (drop i (rows_of a k)) → n ≤ i → n ≡ place_of r (rows_of a k)
past_all r a k n i e p h = omega (arith, p, place_most r (rows_of a k), count_rows a k)
