-- The laws of a log, the list `take top w`. Assumes nothing.
use mathlib.Core.Path.{◌≡◌, refl, sym, ap, ◌∙◌}
use mathlib.Core.List.{List, [], ◌∷◌, ◌++◌, append_assoc}
use mathlib.Core.Bool.{Bool, true, false, cond, and-eq-true_iff}
use Prim.Native.Nat.{ℕ, ◌+◌, ◌-◌, ◌≤◌, ◌<◌}
use native.Mathlib.Nat.{le_refl}
use native.Mathlib.Omega.{arith}
use native.Mathlib.Decide.{dec_le, dec_lt}
use lib.ListN.{length, take, drop, set, get_or, length-take, length-append}
use lib.Seq.{take-append_seam, take-length, length-take-le, get_or-take, take-set-lt, take-set-le, set_out, take-take, sets, length-sets}
use lib.Dec.{leb}
use borrow.Author.Tests.{le-leb, lt-leb, leb-true}
use Rattle.words.specs.Log.{Room, Holds, appended, has_room, Appended}
use Rattle.words.proofs.Stores.{take_sets, drop_sets, take_sets_run}

-- the log is as long as its top says
pub log_length : (w : List ℕ) (top : ℕ) → Room w top → length (take top w) ≡ top
log_length w top h = length-take-le top w (omega arith)

-- ---- reading

pub log_read : (w : List ℕ) (top i : ℕ) → i < top → get_or w i 0 ≡ get_or (take top w) i 0
log_read w top i h = sym (get_or-take top w i 0 h)

-- ---- going back

pub log_cut : (w : List ℕ) (top start : ℕ) → start ≤ top → take start (take top w) ≡ take start w
log_cut w top start h = take-take start top w h

-- ---- another word in the place of one

pub log_put : (w : List ℕ) (top i x : ℕ) → take top (set w i x) ≡ set (take top w) i x
log_put w top i x = go (dec_lt i top)
  where
    go : Dec (i < top) → take top (set w i x) ≡ set (take top w) i x
    go (yes h) = take-set-lt top w i x h
    go (no h) =
        let l : top ≤ i = omega arith in
        take-set-le top w i x l ∙ sym (set_out (take top w) i x (rw (length-take top w) (omega arith)))

-- ---- appending, where there is room for all of the run

pub appended_is : (l xs : List ℕ) → length l + length xs ≤ 16384 → appended l xs ≡ l ++ xs
unfolding appended
appended_is l xs h = rw (le-leb (length l + length xs) 16384 h)

pub appended_full : (l xs : List ℕ) → 16384 < length l + length xs → appended l xs ≡ l
unfolding appended
appended_full l xs h = rw (lt-leb (length l + length xs) 16384 h)

pub appended_low : (l xs : List ℕ) → length l ≤ 16384 → length (appended l xs) ≤ 16384
appended_low l xs h = go (dec_le (length l + length xs) 16384)
  where
    go : Dec (length l + length xs ≤ 16384) → length (appended l xs) ≤ 16384
    go (yes d) = rw (appended_is l xs d, length-append l xs) d
    go (no d) = rw (appended_full l xs (omega arith)) h

-- two runs are one where there is room for both
pub appended_both : (l xs ys : List ℕ) → length l + (length xs + length ys) ≤ 16384 → appended (appended l xs) ys ≡ appended l (xs ++ ys)
appended_both l xs ys h =
    let n : length (l ++ xs) ≡ length l + length xs = length-append l xs in
    let m : length (xs ++ ys) ≡ length xs + length ys = length-append xs ys in
    rw (appended_is l xs (omega arith), appended_is (l ++ xs) ys (omega arith), appended_is l (xs ++ ys) (omega arith)) (append_assoc l xs ys)

-- what a log held stands in it after appending
pub appended_keeps : (l xs : List ℕ) → take (length l) (appended l xs) ≡ l
appended_keeps l xs = go (dec_le (length l + length xs) 16384)
  where
    go : Dec (length l + length xs ≤ 16384) → take (length l) (appended l xs) ≡ l
    go (yes d) = rw (appended_is l xs d) (take-append_seam l xs)
    go (no d) = rw (appended_full l xs (omega arith)) (take-length l)

-- ---- appending to a slice: the test, and what each answer leaves

pub room_full : (len top n : ℕ) → 16384 < top + n → false ≡ has_room len top n
unfolding has_room
room_full len top n h = rw (lt-leb (top + n) 16384 h)

pub room_left : (len top n : ℕ) → top ≤ 16384 → n ≤ 16384 - top → leb (top + n) len ≡ has_room len top n
unfolding has_room
room_left len top n l h = rw (le-leb (top + n) 16384 (omega arith))

-- where there is room for n more, the end after them is within the slice
pub room_within : (len top n : ℕ) → has_room len top n ≡ true → (top + n ≤ 16384) × (top + n ≤ len)
unfolding has_room
room_within len top n h =
    let a = (and-eq-true_iff (leb (top + n) 16384) (leb (top + n) len)).0 h in
    (leb-true (top + n) 16384 a.0, leb-true (top + n) len a.1)

module _ (w : List ℕ) (top : ℕ) (xs : List ℕ) (b : Bool) (e : b ≡ has_room (length w) top (length xs)) where
  pub append_out : b ≡ false → Appended w top xs w top
  append_out h =
      let t : has_room (length w) top (length xs) ≡ false = sym e ∙ h in
      record { words = rw t; end = rw t }

-- one word more
pub push_in : (w : List ℕ) (top x : ℕ) (b : Bool) → b ≡ has_room (length w) top 1 → b ≡ true → Appended w top (x ∷ []) (set w top x) (top + 1)
push_in w top x b e h =
    let t : has_room (length w) top 1 ≡ true = sym e ∙ h in
    record { words = rw t; end = rw t }

-- a run of stores in the place of the words that it writes
pub append_stored : (w : List ℕ) (top : ℕ) (xs is : List ℕ) (b : Bool) → b ≡ has_room (length w) top (length xs) → b ≡ true → is ≡ sets w top xs
    → Appended w top xs is (top + length xs)
append_stored w top xs is b e h p =
    let t : has_room (length w) top (length xs) ≡ true = sym e ∙ h in
    record { words = rw t p; end = rw t }

module _ {w : List ℕ} {top : ℕ} {xs is : List ℕ} {next : ℕ} (p : Appended w top xs is next) where
  -- by the test: with the words stored, or as before
  by_test : {A : Type 0} → ((has_room (length w) top (length xs) ≡ true) → is ≡ sets w top xs → next ≡ top + length xs → A) → (is ≡ w → next ≡ top → A) → A
  by_test {A} f g = go (has_room (length w) top (length xs)) refl p.words p.end
    where
      go : (t : Bool) → has_room (length w) top (length xs) ≡ t → is ≡ cond t (sets w top xs) w → next ≡ cond t (top + length xs) top → A
      go true e q r = f e q r
      go false e q r = g q r

  pub append_length : length is ≡ length w
  append_length = by_test (λ t q r. ap length q ∙ length-sets w top xs) (λ q r. ap length q)

  -- nothing changes below the log's end, nor past the words that it may take
  pub append_below : take top is ≡ take top w
  append_below = by_test (λ t q r. ap (take top) q ∙ take_sets xs w top top (le_refl top)) (λ q r. ap (take top) q)

  pub append_rest : (n : ℕ) → 16384 ≤ n → drop n is ≡ drop n w
  append_rest n h =
      by_test
      (λ t q r. ap (drop n) q ∙ drop_sets xs w n top (omega (arith, (room_within (length w) top (length xs) t).0)))
      (λ q r. ap (drop n) q)

-- a slice that has the words a log may take: appending is appending to the log
module _ {w : List ℕ} {top : ℕ} {xs is : List ℕ} {next : ℕ} (h : Room w top) (p : Appended w top xs is next) where
  pub append_holds : Holds top is next (appended (take top w) xs)
  append_holds = go (dec_le (top + length xs) 16384)
    where
      go : Dec (top + length xs ≤ 16384) → Holds top is next (appended (take top w) xs)
      go (yes d) =
          let t : has_room (length w) top (length xs) ≡ true = sym (room_left (length w) top (length xs) h.low (omega arith)) ∙ le-leb (top + length xs) (length w) (omega (arith, h.long)) in
          let n : next ≡ top + length xs = p.end ∙ rw t in
          let s : is ≡ sets w top xs = p.words ∙ rw t in
          let g : length (take top w) ≡ top = log_length w top h in
          record {
            is = rw (n, s, appended_is (take top w) xs (omega arith)) (take_sets_run xs w top (omega (arith, h.long)));
            low = omega arith;
            grows = omega arith;
          }
      go (no d) =
          let t : has_room (length w) top (length xs) ≡ false = sym (room_full (length w) top (length xs) (omega arith)) in
          let n : next ≡ top = p.end ∙ rw t in
          let s : is ≡ w = p.words ∙ rw t in
          let g : length (take top w) ≡ top = log_length w top h in
          record {
            is = rw (n, s, appended_full (take top w) xs (omega arith));
            low = omega (arith, h.low);
            grows = omega arith;
          }

  pub append_room : Room is next
  append_room = record { low = append_holds.low; long = omega (arith, h.long, append_length p) }

-- a log that was changed within its room has room again
pub holds_room : {w is l : List ℕ} {top next : ℕ} → Room w top → length is ≡ length w → Holds top is next l → Room is next
holds_room r e h = record { low = h.low; long = omega (arith, r.long) }

-- the same log by another name
pub holds_as : {w l m : List ℕ} {was top : ℕ} → Holds was w top l → l ≡ m → Holds was w top m
holds_as h e = record { is = h.is ∙ e; low = h.low; grows = h.grows }

-- from an earlier end
pub holds_from : {w l : List ℕ} {was mid top : ℕ} → Holds mid w top l → was ≤ mid → Holds was w top l
holds_from h e = record { is = h.is; low = h.low; grows = omega (arith, h.grows) }

-- cut back to a shorter end
pub holds_back : {w l : List ℕ} {was top : ℕ} (start : ℕ) → Holds was w top l → start ≤ top → Holds start w start (take start l)
holds_back {w} {l} {was} {top} start h e =
    record { is = sym (log_cut w top start e) ∙ ap (take start) h.is; low = omega (arith, h.low); grows = le_refl start }

-- unchanged
pub holds_same : (w : List ℕ) (top : ℕ) → Room w top → Holds top w top (take top w)
holds_same w top h = record { is = refl; low = h.low; grows = le_refl top }
