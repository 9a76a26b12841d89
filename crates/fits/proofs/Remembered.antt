-- Pairs that are remembered: the bit of a pair, words that remember nothing, and rows that stay.
use mathlib.Core.Path.{◌≡◌, refl, sym, ap, ◌∙◌}
use mathlib.Core.Bool.{Bool, true, false, cond, ◌&&◌}
use mathlib.Core.Logic.{◌⊎◌, inl, inr, ⊎_elim}
use mathlib.Core.List.{List}
use Prim.Native.Nat.{ℕ, zero, suc, ◌+◌, ◌*◌, ◌/◌, ◌%◌, ◌^◌, ◌≤◌, ◌<◌}
use native.Mathlib.Nat.{zero-div}
use native.Mathlib.Omega.{arith}
use borrow.Author.Tests.{lt-ltb, le-ltb, ltb-true}
use lib.Dec.{ltb}
use lib.ListN.{get_or, drop, set, replicate}
use lib.Seq.{drop-set-lt}
use Rattle.cedar.proofs.Tools.{no_true, and_both}
use Rattle.sheet.specs.Forms.{VALUE, TYPE}
use Rattle.sheet.specs.State.{lines_of}
use Rattle.words.specs.Bits.{bit, member, added}
use Rattle.words.proofs.Bits.{added_is}
use Rattle.table.specs.Layout.{rows_of, held, lines_held, TYPEDEPTHS}
use Rattle.fits.specs.Fit.{is_pair, marked, with_pair, Settled, SettledIn, full, Known}

-- ---- the tests of the code

module _ (v t : ℕ) where
  pub pair_in : v < 1024 → ltb t 128 ≡ is_pair v t
  unfolding is_pair
  pair_in h = rw (lt-ltb v 1024 h)

  pub pair_out : 1024 ≤ v → false ≡ is_pair v t
  unfolding is_pair
  pair_out h = rw (le-ltb v 1024 h)

module _ (m : List ℕ) (v t : ℕ) (p : Bool) (ep : p ≡ is_pair v t) where
  pub marked_is : (b : Bool) → p ≡ true → b ≡ member m (v * 128 + t) → b ≡ marked m v t
  unfolding marked
  marked_is b h e = rw (← ep, h) e

  pub marked_out : p ≡ false → false ≡ marked m v t
  unfolding marked
  marked_out h = rw (← ep, h)

  pub mark_in : (n : List ℕ) → p ≡ true → n ≡ added m (v * 128 + t) → n ≡ with_pair m v t
  unfolding with_pair
  mark_in n h e = rw (← ep, h) e

  pub mark_out : p ≡ false → m ≡ with_pair m v t
  unfolding with_pair
  mark_out h = rw (← ep, h)

-- ---- what a mark does

pub small_pair : (v t : ℕ) → is_pair v t ≡ true → (v < 1024) × (t < 128)
unfolding is_pair
small_pair v t e = and_both (ltb v 1024) (ltb t 128) e (λ p q. (ltb-true v 1024 p, ltb-true t 128 q))

-- nothing but the pair has been marked
pub only_pair : (m : List ℕ) (v t w u : ℕ) → marked (with_pair m v t) w u ≡ true → (marked m w u ≡ true) ⊎ ((w ≡ v) × (u ≡ t))
unfolding marked with_pair
only_pair m v t w u e = go (is_pair v t) refl e
  where
    go : (p : Bool) → is_pair v t ≡ p → (is_pair w u && member (cond p (added m (v * 128 + t)) m) (w * 128 + u)) ≡ true → (marked m w u ≡ true) ⊎ ((w ≡ v) × (u ≡ t))
    go false hp e = inl e
    go true hp e =
        and_both (is_pair w u) (member (added m (v * 128 + t)) (w * 128 + u)) e (λ q k.
        let x : (v < 1024) × (t < 128) = small_pair v t hp in
        let y : (w < 1024) × (u < 128) = small_pair w u q in
        ⊎_elim (λ i. inl (rw q i)) (λ i. inr (omega arith, omega arith)) ((added_is m (v * 128 + t)).joined (w * 128 + u) k))

-- the words that follow the pairs are untouched
drop_added : (m : List ℕ) (p : ℕ) → p / 32 < TYPEDEPTHS → drop TYPEDEPTHS (added m p) ≡ drop TYPEDEPTHS m
unfolding added
drop_added m p h = go (member m p)
  where
    go : (t : Bool) → drop TYPEDEPTHS (cond t m (set m (p / 32) (get_or m (p / 32) 0 + 2 ^ (p % 32)))) ≡ drop TYPEDEPTHS m
    go true = refl
    go false = drop-set-lt TYPEDEPTHS m (p / 32) (get_or m (p / 32) 0 + 2 ^ (p % 32)) h

pub rest_pair : (m : List ℕ) (v t : ℕ) → drop TYPEDEPTHS (with_pair m v t) ≡ drop TYPEDEPTHS m
unfolding with_pair
rest_pair m v t = go (is_pair v t) refl
  where
    go : (p : Bool) → is_pair v t ≡ p → drop TYPEDEPTHS (cond p (added m (v * 128 + t)) m) ≡ drop TYPEDEPTHS m
    go false e = refl
    go true e = let x : (v < 1024) × (t < 128) = small_pair v t e in drop_added m (v * 128 + t) (omega arith)

-- ---- words that remember nothing

pub cleared : (a m : List ℕ) → ((i : ℕ) → i < TYPEDEPTHS → get_or m i 0 ≡ 0) → Known a m
unfolding marked member bit
cleared a m h = record {
  holds = λ v t e s. and_both (is_pair v t) (member m (v * 128 + t)) e (λ q k.
      let x : (v < 1024) × (t < 128) = small_pair v t q in
      let z : member m (v * 128 + t) ≡ false = rw (h ((v * 128 + t) / 32) (omega arith), zero-div (2 ^ ((v * 128 + t) % 32))) in
      no_true (sym z ∙ k));
}

-- what is remembered stands in the first words
pub known_words : (a m m' : List ℕ) → ((i : ℕ) → i < TYPEDEPTHS → get_or m' i 0 ≡ get_or m i 0) → Known a m → Known a m'
unfolding marked member
known_words a m m' e k =
    record {
      holds = λ v t h s. and_both (is_pair v t) (member m' (v * 128 + t)) h (λ q i.
          let x = small_pair v t q in
          let w : get_or m' ((v * 128 + t) / 32) 0 ≡ get_or m ((v * 128 + t) / 32) 0 = e ((v * 128 + t) / 32) (omega (arith, x.0, x.1)) in
          k.holds v t (both (is_pair v t) (member m (v * 128 + t)) q (ap (bit ((v * 128 + t) % 32)) (sym w) ∙ i)) s);
    }
  where
    both : (x y : Bool) → x ≡ true → y ≡ true → (x && y) ≡ true
    both x y p q = rw (p, q) refl

zeros : (n i : ℕ) → ◌≡◌ {A = ℕ} (get_or (replicate n 0) i 0) 0
zeros zero i = refl
zeros (suc n) zero = refl
zeros (suc n) (suc i) = zeros n i

pub fresh : (a : List ℕ) (n : ℕ) → Known a (replicate n 0)
fresh a n = cleared a (replicate n 0) (λ i _. zeros n i)

-- ---- the whole depth is enough for the rows in words where it is for the state that the words hold

pub settled_held : (sheet a b : List ℕ) → Settled (lines_of (held sheet a b) VALUE) (lines_of (held sheet a b) TYPE) → SettledIn a
unfolding SettledIn held lines_held
settled_held sheet a b s = s

-- ---- words that hold the same types and values: what is remembered stays true

pub known_kept : (a b m : List ℕ) → rows_of b VALUE ≡ rows_of a VALUE → rows_of b TYPE ≡ rows_of a TYPE → Known a m → Known b m
unfolding full SettledIn
known_kept a b m ev et k = record { holds = λ v t e s. rw (ev, et) (k.holds v t e (rw (← ev, ← et) s)) }
