-- Parts of a slice, stores and runs of stores, words that agree below a place, and words cleared. Assumes nothing.
use mathlib.Core.Path.{◌≡◌, refl, sym, ap, ◌∙◌}
use mathlib.Core.List.{List, [], ◌∷◌, ◌++◌, append_assoc}
use Prim.Native.Nat.{ℕ, zero, suc, ◌+◌, ◌-◌, ◌≤◌, ◌<◌}
use native.Mathlib.Nat.{add-zero, add-suc, suc-add}
use native.Mathlib.Numerals.{add-one}
use native.Mathlib.Omega.{arith}
use borrow.Author.Tests.{lt-ltb, le-ltb}
use lib.ListN.{length, get_or, take, drop, set, replicate, length-set, length-drop, length-append, length-replicate, drop_of_length-le, get_or-replicate, get_or-append}
use lib.Seq.{take-take, take-set-le, drop-set-lt, get_or-take, get_or-drop, drop-cons, sets, sets-eq, set_out, drop_at, take_at, length-take-le}
use Rattle.words.specs.Log.{part, zeros, cleared}

-- ---- one word

-- ---- parts

-- a part from a place to one that lies before it
pub part_none : (w : List ℕ) (a e : ℕ) → e ≤ a → take (e - e) (drop e w) ≡ part w a e
part_none w a e h =
    let p : e - e ≡ 0 = omega arith in
    let q : e - a ≡ 0 = omega arith in
    rw (p, q)

pub length_part : (w : List ℕ) (a e : ℕ) → e ≤ length w → length (part w a e) ≡ e - a
length_part w a e h = length-take-le (e - a) (drop a w) (rw (length-drop a w) (omega arith))

-- a word of a part is one of the slice
pub part_at : (w : List ℕ) (a e i : ℕ) → i < e - a → get_or (part w a e) i 0 ≡ get_or w (a + i) 0
part_at w a e i h = rw (get_or-take (e - a) (drop a w) i 0 h, get_or-drop a w i 0)

-- a part of the words below k is a part of the slice
pub take_drop_take : (m a k : ℕ) (w : List ℕ) → a + m ≤ k → take m (drop a (take k w)) ≡ take m (drop a w)
take_drop_take m zero k w h = take-take m k w (omega arith)
take_drop_take m (suc a) zero w h = absurd (omega arith)
take_drop_take m (suc a) (suc k) [] h = refl
take_drop_take m (suc a) (suc k) (x ∷ w) h = take_drop_take m a k w (omega arith)

pub part_take : (w : List ℕ) (k a e : ℕ) → a ≤ e → e ≤ k → part (take k w) a e ≡ part w a e
part_take w k a e h l = take_drop_take (e - a) a k w (omega arith)

-- ---- a run of stores

pub take_sets : (vs w : List ℕ) (n i : ℕ) → n ≤ i → take n (sets w i vs) ≡ take n w
take_sets [] w n i h = refl
take_sets (a ∷ vs) w n i h = take_sets vs (set w i a) n (suc i) (omega arith) ∙ take-set-le n w i a h

pub drop_sets : (vs w : List ℕ) (n i : ℕ) → i + length vs ≤ n → drop n (sets w i vs) ≡ drop n w
drop_sets [] w n i h = refl
drop_sets (a ∷ vs) w n i h = drop_sets vs (set w i a) n (suc i) (omega arith) ∙ drop-set-lt n w i a (omega arith)

pub part_sets : (vs w : List ℕ) (i e : ℕ) → e ≡ i + length vs → e ≤ length w → part (sets w i vs) i e ≡ vs
part_sets vs w i e h k =
    let n : e - i ≡ length vs = omega arith in
    let f : i + length vs ≤ length w = omega arith in
    let g : i ≤ length w = omega arith in
    rw (n, sets-eq vs w i f, append_assoc, drop_at (take i w) (vs ++ drop (i + length vs) w) i (length-take-le i w g))
    (take_at vs (drop (i + length vs) w) (length vs) refl)

-- the words up to the run's end are those before it, and the run
pub take_sets_run : (vs w : List ℕ) (i : ℕ) → i + length vs ≤ length w → take (i + length vs) (sets w i vs) ≡ take i w ++ vs
take_sets_run vs w i h =
    let g : i ≤ length w = omega arith in
    let n : length (take i w ++ vs) ≡ i + length vs = length-append (take i w) vs ∙ ap (λ (k : ℕ). k + length vs) (length-take-le i w g) in
    rw (sets-eq vs w i h) (take_at (take i w ++ vs) (drop (i + length vs) w) (i + length vs) n)

pub sets_append : (xs ys w : List ℕ) (i : ℕ) → sets w i (xs ++ ys) ≡ sets (sets w i xs) (i + length xs) ys
sets_append [] ys w i = rw add-zero
sets_append (x ∷ xs) ys w i = sets_append xs ys _ (suc i) ∙ rw (add-suc, suc-add)

-- stores past the end do nothing
pub sets_out : {T : Type 0} (vs w : List T) (i : ℕ) → length w ≤ i → sets w i vs ≡ w
sets_out [] w i h = refl
sets_out (a ∷ vs) w i h =
    ap (λ (l : List _). sets l (suc i) vs) (set_out w i a h) ∙ sets_out vs w (suc i) (omega arith)

-- where a run of stores stands: from w₀ at place `at` all of row is left to store, now at place k of w the rest from i on
pub record Storing {T : Type 0} (row w₀ : List T) (at : ℕ) (w : List T) (k i : ℕ) : Type 0 where
  pub long : length w ≡ length w₀
  pub left : sets w₀ at row ≡ sets w k (drop i row)

pub storing_start : {T : Type 0} (row w : List T) (at : ℕ) → Storing row w at w at 0
storing_start row w at = record { long = refl; left = refl }

module _ {T : Type 0} (row w₀ : List T) (at : ℕ) (w : List T) (k i : ℕ) (s : Storing row w₀ at w k i) where
  pub storing_on : (d : T) → i < length row → Storing row w₀ at (set w k (get_or row i d)) (k + 1) (i + 1)
  storing_on d h =
      record {
        long = length-set w k (get_or row i d) ∙ s.long;
        left = s.left ∙ rw (drop-cons row i d h, add-one k, add-one i);
      }

  pub storing_full : length w ≤ k → w ≡ sets w₀ at row
  storing_full h = sym (s.left ∙ sets_out (drop i row) w k h)

  pub storing_end : length row ≤ i → w ≡ sets w₀ at row
  storing_end h = sym (s.left ∙ ap (sets w k) (drop_of_length-le row h))

-- ---- words that agree below a place

module _ (k : ℕ) (w w' : List ℕ) (e : take k w' ≡ take k w) where
  pub get_d_below : (i : ℕ) → i < k → get_or w' i 0 ≡ get_or w i 0
  get_d_below i h = sym (get_or-take k w' i 0 h) ∙ ap (λ (l : List ℕ). get_or l i 0) e ∙ get_or-take k w i 0 h

  pub take_below : (m : ℕ) → m ≤ k → take m w' ≡ take m w
  take_below m h = sym (take-take m k w' h) ∙ ap (take m) e ∙ take-take m k w h

  pub part_below : (a z : ℕ) → a ≤ z → z ≤ k → part w' a z ≡ part w a z
  part_below a z h l = sym (part_take w' k a z h l) ∙ ap (λ (x : List ℕ). part x a z) e ∙ part_take w k a z h l

-- and from a place on
module _ (k : ℕ) (w w' : List ℕ) (e : drop k w' ≡ drop k w) where
  pub get_d_above : (i : ℕ) → k ≤ i → get_or w' i 0 ≡ get_or w i 0
  get_d_above i h =
      let j : k + (i - k) ≡ i = omega arith in
      rw (← j, ← (get_or-drop k w' (i - k) 0), e) (get_or-drop k w (i - k) 0)

-- ---- words cleared; a law on zeros takes their number as a variable: at a numeral they would be written out

module _ (n : ℕ) where
  pub zeros_fill : (w v : List ℕ) → n ≤ length w → v ≡ replicate (length (take n w)) 0 → v ++ drop n w ≡ zeros n w
  unfolding zeros
  zeros_fill w v h e = rw (e, length-take-le n w h)

  pub zeros_same : (w v : List ℕ) → drop n w ≡ drop n v → zeros n w ≡ zeros n v
  unfolding zeros
  zeros_same w v e = ap (λ (l : List ℕ). replicate n 0 ++ l) e

  pub drop_zeros : (w : List ℕ) → drop n (zeros n w) ≡ drop n w
  unfolding zeros
  drop_zeros w = drop_at (replicate n 0) (drop n w) n (length-replicate n 0)

  pub take_zeros : (w : List ℕ) → take n (zeros n w) ≡ replicate n 0
  unfolding zeros
  take_zeros w = take_at (replicate n 0) (drop n w) n (length-replicate n 0)

  pub length_zeros : (w : List ℕ) → n ≤ length w → length (zeros n w) ≡ length w
  unfolding zeros
  length_zeros w h = length-append (replicate n 0) (drop n w) ∙ omega (arith, length-replicate {A = ℕ} n 0, length-drop n w)

  pub get_d_zeros : (w : List ℕ) (i : ℕ) → i < n → get_or (zeros n w) i 0 ≡ 0
  unfolding zeros
  get_d_zeros w i h =
      get_or-append (replicate n 0) (drop n w) 0 i (rw (length-replicate {A = ℕ} n 0) h) ∙ get_or-replicate n i 0 0 h

pub cleared_short : (w : List ℕ) → length w < 16384 → w ≡ cleared w
unfolding cleared
cleared_short w h = rw (lt-ltb (length w) 16384 h)

pub cleared_long : (w : List ℕ) → 16384 ≤ length w → zeros 16384 w ≡ cleared w
unfolding cleared
cleared_long w h = rw (le-ltb (length w) 16384 h)
