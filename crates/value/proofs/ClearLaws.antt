-- The first values that are no bools: they stay so when a value is made, and a search for a bool begins after them. Assumes nothing.
use mathlib.Core.Path.{◌≡◌, refl, sym, ap, ◌∙◌, subst}
use mathlib.Core.Bool.{Bool, true, false, not, cond, ◌||◌}
use mathlib.Core.List.{List}
use Prim.Native.Nat.{ℕ, zero, suc, ◌+◌, ◌≤◌, ◌<◌}
use native.Mathlib.Nat.{le_refl}
use native.Mathlib.Omega.{arith}
use native.Mathlib.Decide.{ℕ_discrete, dec_lt}
use lib.Dec.{ltb}
use lib.ListN.{length, get_or, set, length-set, get_or-eq_default}
use lib.Seq.{sets, length-sets, get_or-set_same, get_or-set_other}
use Rattle.words.proofs.Stores.{take_sets, get_d_below}
use Rattle.forms.proofs.Keys.{regions_rise, regions_low, regions_high}
use Rattle.forms.specs.Tags.{BOOL_VALUE}
use Rattle.sheet.specs.Forms.{VALUE}
use Rattle.sheet.specs.Bytes.{same}
use Rattle.table.specs.Layout.{MADE, TOP, heap, base, limit, limits, row_at, rows_of, with_row}
use Rattle.table.proofs.Rows.{row_some}
use Rattle.value.specs.Lines.{value_lines, place_of}
use Rattle.value.specs.Made.{bool_row, room_for, with_made, with_value}
use Rattle.value.specs.Clear.{value_start, Clear}
use Rattle.value.proofs.Makes.{Finding, rows_start, find_on, HasRoom, room_is}
use Rattle.value.proofs.Passes.{differ}

-- ---- no values, and one more

pub clear_none : (a : List ℕ) → Clear a 0
clear_none a =
    record {
      few = omega arith;
      most = omega arith;
      low = λ i h. absurd (omega arith);
      high = λ i h. absurd (omega arith);
      other = λ i h e. absurd (omega arith);
    }

last_or_before : (P : ℕ → Type 0) (n : ℕ) → P n → ((i : ℕ) → i < n → P i) → (i : ℕ) → i < n + 1 → P i
last_or_before P n p f i h = go (ℕ_discrete i n)
  where
    go : Dec (i ≡ n) → P i
    go (yes d) = subst P (sym d) p
    go (no d) = f i (omega arith)

module _ (a : List ℕ) (skip : ℕ) (c : Clear a skip) (n b s t : ℕ) (en : n ≡ get_or a VALUE 0) (eb : b ≡ base VALUE) (es : s ≡ get_or a (b + skip) 0) (et : t ≡ get_or a TOP 0) where
  start_is : s ≡ value_start a skip
  start_is = es ∙ ap (λ (x : ℕ). get_or a (x + skip) 0) eb

  pub clear_more : (w : ℕ) → skip < n → skip < limit VALUE → heap ≤ s → s < t → w ≡ get_or a s 0 → (w ≡ BOOL_VALUE → ⊥) → Clear a (skip + 1)
  clear_more w few most low high ew other =
      record {
        few = omega arith;
        most = omega arith;
        low = last_or_before (λ (i : ℕ). heap ≤ value_start a i) skip (omega (arith, start_is)) c.low;
        high = last_or_before (λ (i : ℕ). value_start a i < get_or a TOP 0) skip (omega (arith, start_is)) c.high;
        other = last_or_before (λ (i : ℕ). get_or a (value_start a i) 0 ≡ BOOL_VALUE → ⊥) skip (λ e. other (ew ∙ ap (λ (x : ℕ). get_or a x 0) start_is ∙ e)) c.other;
      }

-- ---- a value made

module _ (a r : List ℕ) (room : HasRoom a (length r)) where
  abbrev top : ℕ
  top = get_or a TOP 0

  abbrev stored : List ℕ
  stored = sets a top r

  stored_below : (i : ℕ) → i < top → get_or stored i 0 ≡ get_or a i 0
  stored_below i h = get_d_below top a stored (take_sets r a top top (le_refl top)) i h

  -- where the new row's beginning stands
  place : ℕ
  place = base MADE + get_or stored MADE 0

  high_place : suc place < heap
  unfolding place limit limits
  high_place = omega (arith, stored_below MADE (omega (arith, room.over)), room.few, regions_high MADE (omega arith))

  low_place : base VALUE + limit VALUE < place
  unfolding place
  low_place = omega (arith, regions_rise MADE VALUE (omega arith) (omega arith))

  abbrev w₁ : List ℕ
  w₁ = set stored place (get_or stored TOP 0)

  abbrev w₂ : List ℕ
  w₂ = set w₁ (suc place) (top + length r)

  abbrev w₃ : List ℕ
  w₃ = set w₂ MADE (suc (get_or stored MADE 0))

  new_is : with_made a r ≡ set w₃ TOP (top + length r)
  unfolding with_made with_row place
  new_is = refl

  long : TOP < length w₃
  long = go (dec_lt TOP (length a))
    where
      size : length w₃ ≡ length a
      size = length-set w₂ MADE (suc (get_or stored MADE 0)) ∙ length-set w₁ (suc place) (top + length r) ∙ length-set stored place (get_or stored TOP 0) ∙ length-sets a top r

      go : Dec (TOP < length a) → TOP < length w₃
      go (yes h) = omega (arith, size)
      go (no h) = absurd (let z : get_or a TOP 0 ≡ 0 = get_or-eq_default a 0 (omega arith) in omega (arith, z, room.over))

  top_new : get_or (with_made a r) TOP 0 ≡ top + length r
  top_new = rw new_is (get_or-set_same w₃ TOP (top + length r) 0 long)

  word_kept : (i : ℕ) → i < top → (i ≡ TOP → ⊥) → (i ≡ MADE → ⊥) → (i ≡ place → ⊥) → (i ≡ suc place → ⊥) → get_or (with_made a r) i 0 ≡ get_or a i 0
  word_kept i h t m p q =
      rw (new_is, get_or-set_other w₃ TOP i (top + length r) 0 t, get_or-set_other w₂ MADE i (suc (get_or stored MADE 0)) 0 m, get_or-set_other w₁ (suc place) i (top + length r) 0 q, get_or-set_other stored place i (get_or stored TOP 0) 0 p)
      (stored_below i h)

  count_kept : get_or (with_made a r) VALUE 0 ≡ get_or a VALUE 0
  count_kept =
      let l = low_place in
      let m = regions_low VALUE (omega arith) in
      word_kept VALUE (omega (arith, room.over)) (omega arith) (omega arith) (omega arith) (omega arith)

  start_kept : (i : ℕ) → i < limit VALUE → value_start (with_made a r) i ≡ value_start a i
  start_kept i h =
      let l = low_place in
      let m = regions_low VALUE (omega arith) in
      let t = high_place in
      word_kept (base VALUE + i) (omega (arith, room.over)) (omega arith) (omega arith) (omega arith) (omega arith)

  heap_kept : (i : ℕ) → heap ≤ i → i < top → get_or (with_made a r) i 0 ≡ get_or a i 0
  heap_kept i h l = let p = high_place in word_kept i l (omega arith) (omega arith) (omega arith) (omega arith)

  clear_made : (skip : ℕ) → Clear a skip → Clear (with_made a r) skip
  clear_made skip c =
      record {
        few = omega (arith, c.few, count_kept);
        most = c.most;
        low = λ i h. omega (arith, c.low i h, begins i h);
        high = λ i h. omega (arith, c.high i h, begins i h, top_new);
        other = λ i h e. c.other i h (sym (heap_kept (value_start a i) (c.low i h) (c.high i h)) ∙ ap (λ (x : ℕ). get_or (with_made a r) x 0) (sym (begins i h)) ∙ e);
      }
    where
      begins : (i : ℕ) → i < skip → value_start (with_made a r) i ≡ value_start a i
      begins i h = start_kept i (omega (arith, c.most))

pub clear_kept : (skip : ℕ) (a r : List ℕ) → Clear a skip → Clear (with_value a r) skip
unfolding with_value
clear_kept skip a r c = go (ltb (place_of r (value_lines a)) (length (value_lines a))) (room_for a (length r)) refl
  where
    go : (b d : Bool) → room_for a (length r) ≡ d → Clear (cond (b || not d) a (with_made a r)) skip
    go true d e = c
    go false false e = c
    go false true e = clear_made a r (room_is a (length r) e) skip c

-- ---- the search

module _ (a : List ℕ) (skip : ℕ) (c : Clear a skip) (b : Bool) where
  -- a row passed is no bool
  unlike : (i : ℕ) → i < skip → same (row_at a (base VALUE + i)) (bool_row b) ≡ false
  unfolding row_at
  unlike i h =
      let z : 0 + value_start a i ≡ value_start a i = omega arith in
      differ a (bool_row b) (value_start a i) (get_or a (suc (base VALUE + i)) 0) 0 (omega arith) (λ e. c.other i h (ap (λ (x : ℕ). get_or a x 0) (sym z) ∙ e))

  passing : (n : ℕ) → n ≡ get_or a VALUE 0 → (i : ℕ) → i ≤ skip → Finding (bool_row b) (rows_of a VALUE) n i
  passing n en zero h = rows_start (bool_row b) a VALUE n en
  passing n en (suc i) h =
      let l : i < n = omega (arith, c.few) in
      let z : i + 1 ≡ suc i = omega arith in
      subst (λ (x : ℕ). Finding (bool_row b) (rows_of a VALUE) n x) z
      (find_on (bool_row b) (rows_of a VALUE) n i (passing n en i (omega arith)) l (row_at a (base VALUE + i)) (row_some a VALUE i n (base VALUE) (row_at a (base VALUE + i)) en l refl refl) false (sym (unlike i (omega arith))) refl)

  -- the search for a bool among the sheet's values may begin at number `skip`
  pub clear_place : (n : ℕ) → n ≡ get_or a VALUE 0 → Finding (bool_row b) (rows_of a VALUE) n skip
  clear_place n en = passing n en skip (le_refl skip)
