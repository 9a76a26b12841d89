-- The lowest bit of a word, and the first member of a set from a number on. Assumes nothing.
use mathlib.Core.Path.{◌≡◌, refl, sym, ap, subst, ◌∙◌}
use mathlib.Core.Bool.{true, false}
use mathlib.Core.List.{List}
use Prim.Native.Nat.{ℕ, zero, suc, ◌+◌, ◌-◌, ◌*◌, ◌/◌, ◌%◌, ◌^◌, ◌≤◌, ◌<◌}
use native.Mathlib.Nat.{div-div-eq-div-mul, mul_comm, pow-suc, div-eq_of_lt, div-le_self, zero-div}
use native.Mathlib.Omega.{arith}
use native.Mathlib.Decide.{dec_lt}
use borrow.Author.Tests.{eq-eqb, ne_eqb, eqb-true}
use lib.Dec.{eqb}
use lib.Count.{count_trailing_zeros, under}
use lib.ListN.{length, get_or, get_or-eq_default}
use lib.Pow.{pow_mono, pow-add}
use Rattle.cedar.proofs.Tools.{no_true}
use Rattle.words.specs.Bits.{bit, member}
use Rattle.typesets.specs.Sets.{TYPES, Next}

-- ---- bits of a word

pub bit_of_zero : (n : ℕ) → bit n 0 ≡ false
unfolding bit
bit_of_zero n = ap (λ (m : ℕ). eqb (m % 2) 1) (zero-div (2 ^ n))

bit_suc : (s w : ℕ) → bit (suc s) w ≡ bit s (w / 2)
unfolding bit
bit_suc s w = ap (λ (x : ℕ). eqb (x % 2) 1) (ap (λ (x : ℕ). w / x) (pow-suc 2 s ∙ mul_comm (2 ^ s) 2) ∙ sym (div-div-eq-div-mul w 2 (2 ^ s)))

bit_low : (w : ℕ) → bit 0 w ≡ eqb (w % 2) 1
unfolding bit
bit_low w = let e : w / 2 ^ 0 ≡ w = omega arith in ap (λ (x : ℕ). eqb (x % 2) 1) e

-- what is left of a word after its lowest s bits
bit_shift : (s j w : ℕ) → bit j (w / 2 ^ s) ≡ bit (s + j) w
unfolding bit
bit_shift s j w = ap (λ (x : ℕ). eqb (x % 2) 1) (div-div-eq-div-mul w (2 ^ s) (2 ^ j) ∙ ap (λ (x : ℕ). w / x) (sym (pow-add 2 s j)))

-- no bit past the highest
pub bit_over : (n k w : ℕ) → w < 2 ^ n → n ≤ k → bit k w ≡ false
unfolding bit
bit_over n k w h l = ap (λ (x : ℕ). eqb (x % 2) 1) (div-eq_of_lt {n = w} {m = 2 ^ k} (let m : 2 ^ n ≤ 2 ^ k = pow_mono l in omega (arith, m)))

-- the lowest bit, and none below it
pub tz_here : (d q : ℕ) → (q ≡ 0 → ⊥) → q < 2 ^ d → bit (count_trailing_zeros d q) q ≡ true
unfolding count_trailing_zeros
tz_here zero q h k = absurd (h (omega arith))
tz_here (suc d) q h k = go (q % 2) refl (λ e. tz_here d (q / 2) (λ z. h (omega arith)) (let p = pow-suc 2 d in omega (arith, p)))
  where
    go : (r : ℕ) → q % 2 ≡ r → (q % 2 ≡ 0 → bit (count_trailing_zeros d (q / 2)) (q / 2) ≡ true) → bit (under r (count_trailing_zeros d (q / 2))) q ≡ true
    go zero e ih = bit_suc (count_trailing_zeros d (q / 2)) q ∙ ih e
    go (suc r) e ih = bit_low q ∙ eq-eqb (q % 2) 1 (omega arith)

tz_below : (d q j : ℕ) → j < count_trailing_zeros d q → bit j q ≡ false
unfolding count_trailing_zeros
tz_below zero q j h = absurd (omega arith)
tz_below (suc d) q j h = go (q % 2) refl j h (tz_below d (q / 2))
  where
    go : (r : ℕ) → q % 2 ≡ r → (j : ℕ) → j < under r (count_trailing_zeros d (q / 2)) → ((i : ℕ) → i < count_trailing_zeros d (q / 2) → bit i (q / 2) ≡ false) → bit j q ≡ false
    go zero e zero l ih = bit_low q ∙ ne_eqb (q % 2) 1 (omega arith)
    go zero e (suc j) l ih = bit_suc j q ∙ ih j (omega arith)
    go (suc r) e j l ih = absurd (omega arith)

-- a bit that is set may be taken off
pub bit_less : (s w : ℕ) → bit s w ≡ true → (2 ^ s ≤ w) × (bit s (w - 2 ^ s) ≡ false)
bit_less zero w h = let o : w % 2 ≡ 1 = eqb-true (w % 2) 1 (sym (bit_low w) ∙ h) in (omega arith, bit_low (w - 2 ^ 0) ∙ ne_eqb ((w - 2 ^ 0) % 2) 1 (omega arith))
bit_less (suc s) w h =
    let p = pow-suc 2 s in
    let (l, e) = bit_less s (w / 2) (sym (bit_suc s w) ∙ h) in
    let q : (w - 2 ^ suc s) / 2 ≡ w / 2 - 2 ^ s = omega (arith, p, l) in
    (omega (arith, p, l), bit_suc s (w - 2 ^ suc s) ∙ ap (bit s) q ∙ e)

-- past the words of a set there is none
pub member_out : (s : List ℕ) (x : ℕ) → length s ≤ x / 32 → member s x ≡ false
unfolding member
member_out s x h = rw (get_or-eq_default s 0 {n = x / 32} h) (bit_of_zero (x % 32))

-- ---- the members of a set in one word, from bit s on

module _ (set : List ℕ) (w s x : ℕ) (ex : x ≡ get_or set w 0 / 2 ^ s) where
  at_bit : (p : ℕ) → w * 32 + s ≤ p → p < w * 32 + 32 → member set p ≡ bit (p - (w * 32 + s)) x
  unfolding member
  at_bit p l h =
      let q : p / 32 ≡ w = omega arith in
      let r : p % 32 ≡ s + (p - (w * 32 + s)) = omega arith in
      rw (q, r, ex) (sym (bit_shift s (p - (w * 32 + s)) (get_or set w 0)))

  word_none : x ≡ 0 → (p : ℕ) → w * 32 + s ≤ p → p < w * 32 + 32 → member set p ≡ false
  word_none z p l h = at_bit p l h ∙ ap (bit (p - (w * 32 + s))) z ∙ bit_of_zero (p - (w * 32 + s))

  module _ (t : ℕ) (n : x ≡ 0 → ⊥) (b : get_or set w 0 < 4294967296) (et : t ≡ count_trailing_zeros 32 x) where
    low_here : bit (s + t) (get_or set w 0) ≡ true
    low_here = sym (bit_shift s t (get_or set w 0)) ∙ ap (bit t) (sym ex) ∙ ap (λ (i : ℕ). bit i x) et ∙ tz_here 32 x n (let d = div-le_self (get_or set w 0) (2 ^ s) in omega (arith, d))

    word_in : s + t < 32
    word_in = go (dec_lt (s + t) 32)
      where
        go : Dec (s + t < 32) → s + t < 32
        go (yes l) = l
        go (no l) = no_true (sym (bit_over 32 (s + t) (get_or set w 0) b (omega (arith, l))) ∙ low_here)

    word_here : member set (w * 32 + s + t) ≡ true
    word_here =
        let j : w * 32 + s + t - (w * 32 + s) ≡ t = omega arith in
        at_bit (w * 32 + s + t) (omega arith) (omega (arith, word_in)) ∙ ap (λ (i : ℕ). bit i x) j ∙ ap (bit t) ex ∙ bit_shift s t (get_or set w 0) ∙ low_here

    word_below : (p : ℕ) → w * 32 + s ≤ p → p < w * 32 + s + t → member set p ≡ false
    word_below p l h = at_bit p l (omega (arith, word_in)) ∙ tz_below 32 x (p - (w * 32 + s)) (omega (arith, et))

-- ---- the first member from n on

-- from n up to word w there is none
pub record Looked (set : List ℕ) (n w : ℕ) : Type 0 where
  pub low : n ≤ w * 32
  pub none : (p : ℕ) → n ≤ p → p < w * 32 → member set p ≡ false

module _ (set : List ℕ) (n : ℕ) where
  -- in its own word
  module _ (x y : ℕ) (ex : x ≡ get_or set (n / 32) 0) (ey : y ≡ x / 2 ^ (n % 32)) where
    is_left : y ≡ get_or set (n / 32) 0 / 2 ^ (n % 32)
    is_left = ey ∙ ap (λ (z : ℕ). z / 2 ^ (n % 32)) ex

    pub look_start : y ≡ 0 → Looked set n (n / 32 + 1)
    look_start z = record {
      low = omega arith;
      none = λ p l h. word_none set (n / 32) (n % 32) y is_left z p (omega arith) (omega arith);
    }

    pub look_own : (t : ℕ) → (y ≡ 0 → ⊥) → get_or set (n / 32) 0 < 4294967296 → t ≡ count_trailing_zeros 32 y → length set ≡ 4 → Next set n (n + t) × (n + t ≤ TYPES)
    look_own t z c et l =
        let e : n / 32 * 32 + n % 32 + t ≡ n + t = omega arith in
        let h : member set (n + t) ≡ true = subst (λ (v : ℕ). member set v ≡ true) e (word_here set (n / 32) (n % 32) y is_left t z c et) in (
          record {
            low = omega arith;
            none = λ p l h. word_below set (n / 32) (n % 32) y is_left t z c et p (omega arith) (omega arith);
            here = λ _. h;
          },
          in_words (n + t) h l,
        )
      where
        in_words : (p : ℕ) → member set p ≡ true → length set ≡ 4 → p ≤ TYPES
        in_words p m l = go (dec_lt p TYPES)
          where
            go : Dec (p < TYPES) → p ≤ TYPES
            go (yes h) = omega arith
            go (no h) = no_true (sym (member_out set p (omega (arith, h))) ∙ m)

  -- in a later one
  module _ (w : ℕ) (k : Looked set n w) where
    pub look_end : 4 ≤ w → n ≤ TYPES → Next set n TYPES × (TYPES ≤ TYPES)
    look_end h l = (record { low = l; none = λ p a b. k.none p a (omega arith); here = λ c. absurd (omega arith) }, omega arith)

    module _ (x : ℕ) (ex : x ≡ get_or set w 0) where
      whole : x ≡ get_or set w 0 / 2 ^ 0
      whole = ex ∙ let e : get_or set w 0 ≡ get_or set w 0 / 2 ^ 0 = omega arith in e

      pub look_on : x ≡ 0 → Looked set n (w + 1)
      look_on z = record {
        low = let l = k.low in omega (arith, l);
        none = λ p l h. go p (dec_lt p (w * 32)) l h;
      }
        where
          go : (p : ℕ) → Dec (p < w * 32) → n ≤ p → p < (w + 1) * 32 → member set p ≡ false
          go p (yes c) l h = k.none p l c
          go p (no c) l h = word_none set w 0 x whole z p (omega (arith, c)) (omega arith)

      pub look_hit : (t : ℕ) → (x ≡ 0 → ⊥) → w < 4 → get_or set w 0 < 4294967296 → t ≡ count_trailing_zeros 32 x → Next set n (w * 32 + t) × (w * 32 + t ≤ TYPES)
      look_hit t z u c et =
          let e : w * 32 + 0 + t ≡ w * 32 + t = omega arith in
          let i = word_in set w 0 x whole t z c et in (
            record {
              low = let l = k.low in omega (arith, l);
              none = λ p l h. go p (dec_lt p (w * 32)) c l h;
              here = λ _. subst (λ (v : ℕ). member set v ≡ true) e (word_here set w 0 x whole t z c et);
            },
            omega (arith, i),
          )
        where
          go : (p : ℕ) → Dec (p < w * 32) → get_or set w 0 < 4294967296 → n ≤ p → p < w * 32 + t → member set p ≡ false
          go p (yes d) c l h = k.none p l d
          go p (no d) c l h = word_below set w 0 x whole t z c et p (omega (arith, d)) (omega arith)
