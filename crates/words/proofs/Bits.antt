-- The bits of a word, and a set of numbers in words. Assumes nothing.
use mathlib.Core.Path.{◌≡◌, refl, sym, ap, ◌∙◌}
use mathlib.Core.Bool.{Bool, true, false, cond, ◌||◌}
use mathlib.Core.Logic.{◌⊎◌, inl, inr, ⊎_elim}
use mathlib.Core.List.{List, [], ◌∷◌, ◌++◌, append_assoc, append-nil}
use Prim.Native.Nat.{ℕ, zero, suc, ◌+◌, ◌*◌, ◌/◌, ◌%◌, ◌^◌, ◌≤◌, ◌<◌}
use native.Mathlib.Nat.{div-div-eq-div-mul, mul_comm, pow-suc, one-mul}
use native.Mathlib.Numerals.{add-one}
use native.Mathlib.Omega.{arith}
use native.Mathlib.Decide.{dec_lt, dec_le}
use Rattle.std.proofs.Common.{min}
use borrow.Author.Tests.{eqb-true, eqb-false, eq-eqb}
use lib.Bits.{bit_or, or_shr, or_mod}
use lib.Dec.{eqb}
use lib.ListN.{length, get_or, take, drop, set, length-set, drop_of_length-le, take-append-drop}
use lib.Seq.{set_out, get_or-set_same, get_or-set_other, drop-cons, take_all, take-suc-set, drop-set-lt}
use lib.Pow.{shl_exact}
use Rattle.words.specs.Bits.{bit, member, added, Added, joined}

-- ---- bits

double : (s : ℕ) → 2 ^ suc s ≡ 2 * 2 ^ s
double s = pow-suc 2 s ∙ mul_comm (2 ^ s) 2

bit_suc : (s w : ℕ) → bit (suc s) w ≡ bit s (w / 2)
unfolding bit
bit_suc s w = ap (λ (x : ℕ). eqb (x % 2) 1) (ap (λ (x : ℕ). w / x) (double s) ∙ sym (div-div-eq-div-mul w 2 (2 ^ s)))

bit_zero : (w : ℕ) → bit 0 w ≡ eqb (w % 2) 1
unfolding bit
bit_zero w =
    let e : w / 2 ^ 0 ≡ w = omega arith in
    ap (λ (x : ℕ). eqb (x % 2) 1) e

odd : (w : ℕ) → bit 0 w ≡ true → w % 2 ≡ 1
odd w h = eqb-true (w % 2) 1 (sym (bit_zero w) ∙ h)

even : (w : ℕ) → bit 0 w ≡ false → w % 2 ≡ 0
even w h = let n : w % 2 ≡ 1 → ⊥ = eqb-false (w % 2) 1 (sym (bit_zero w) ∙ h) in omega arith

-- a bit that is set is one that was, or the new one
pub bit_joins : (s k w : ℕ) → bit s w ≡ false → bit k (w + 2 ^ s) ≡ true → (bit k w ≡ true) ⊎ (k ≡ s)
bit_joins zero zero w h e = inr refl
bit_joins zero (suc k) w h e =
    let z : w % 2 ≡ 0 = even w h in
    let q : (w + 2 ^ 0) / 2 ≡ w / 2 = omega arith in
    inl (bit_suc k w ∙ ap (bit k) (sym q) ∙ sym (bit_suc k (w + 2 ^ 0)) ∙ e)
bit_joins (suc s) zero w h e =
    let z : (w + 2 ^ suc s) % 2 ≡ 1 = odd (w + 2 ^ suc s) e in
    let q : w % 2 ≡ 1 = omega (arith, double s) in
    inl (bit_zero w ∙ eq-eqb (w % 2) 1 q)
bit_joins (suc s) (suc k) w h e =
    let q : (w + 2 ^ suc s) / 2 ≡ w / 2 + 2 ^ s = omega (arith, double s) in
    let f : bit k (w / 2 + 2 ^ s) ≡ true = ap (bit k) (sym q) ∙ sym (bit_suc k (w + 2 ^ suc s)) ∙ e in
    ⊎_elim (λ i. inl (bit_suc k w ∙ i)) (λ i. inr (ap suc i)) (bit_joins s k (w / 2) (sym (bit_suc s w) ∙ h) f)

pub bit_keeps : (s k w : ℕ) → bit s w ≡ false → bit k w ≡ true → bit k (w + 2 ^ s) ≡ true
bit_keeps zero zero w h e =
    let z : w % 2 ≡ 0 = even w h in
    let y : w % 2 ≡ 1 = odd w e in
    absurd (omega arith)
bit_keeps zero (suc k) w h e =
    let z : w % 2 ≡ 0 = even w h in
    let q : (w + 2 ^ 0) / 2 ≡ w / 2 = omega arith in
    bit_suc k (w + 2 ^ 0) ∙ ap (bit k) q ∙ sym (bit_suc k w) ∙ e
bit_keeps (suc s) zero w h e =
    let z : w % 2 ≡ 1 = odd w e in
    let q : (w + 2 ^ suc s) % 2 ≡ 1 = omega (arith, double s) in
    bit_zero (w + 2 ^ suc s) ∙ eq-eqb ((w + 2 ^ suc s) % 2) 1 q
bit_keeps (suc s) (suc k) w h e =
    let q : (w + 2 ^ suc s) / 2 ≡ w / 2 + 2 ^ s = omega (arith, double s) in
    bit_suc k (w + 2 ^ suc s) ∙ ap (bit k) q ∙ bit_keeps s k (w / 2) (sym (bit_suc s w) ∙ h) (sym (bit_suc k w) ∙ e)

pub bit_new : (s w : ℕ) → bit s w ≡ false → bit s (w + 2 ^ s) ≡ true
bit_new zero w h =
    let z : w % 2 ≡ 0 = even w h in
    let q : (w + 2 ^ 0) % 2 ≡ 1 = omega arith in
    bit_zero (w + 2 ^ 0) ∙ eq-eqb ((w + 2 ^ 0) % 2) 1 q
bit_new (suc s) w h =
    let q : (w + 2 ^ suc s) / 2 ≡ w / 2 + 2 ^ s = omega (arith, double s) in
    bit_suc s (w + 2 ^ suc s) ∙ ap (bit s) q ∙ bit_new s (w / 2) (sym (bit_suc s w) ∙ h)

-- a word with a clear bit has room for it
pub bit_room : (s n w : ℕ) → s < n → w < 2 ^ n → bit s w ≡ false → w + 2 ^ s < 2 ^ n
bit_room s zero w l b h = absurd (omega arith)
bit_room zero (suc n) w l b h = let z : w % 2 ≡ 0 = even w h in omega (arith, double n)
bit_room (suc s) (suc n) w l b h =
    let i : w / 2 + 2 ^ s < 2 ^ n = bit_room s n (w / 2) (omega arith) (omega (arith, double n)) (sym (bit_suc s w) ∙ h) in
    omega (arith, double n, double s)

-- ---- sets of numbers

pub stays : (m : List ℕ) (p : ℕ) (b : Bool) → b ≡ member m p → b ≡ true → Added p m m
stays m p b h e = record { joined = λ q i. inl i; kept = λ q i. i; here = λ l. sym h ∙ e }

pub stays_out : (m : List ℕ) (p : ℕ) → length m ≤ p / 32 → Added p m m
stays_out m p h = record { joined = λ q i. inl i; kept = λ q i. i; here = λ l. absurd (omega arith) }

module _ (m : List ℕ) (p w x : ℕ) (l : p / 32 < length m) (ew : w ≡ get_or m (p / 32) 0) (ex : x ≡ 2 ^ (p % 32)) (h : member m p ≡ false) where
  -- the word of q where it is the new one, and where it is another
  new : (q : ℕ) → q / 32 ≡ p / 32 → get_or (set m (p / 32) (w + x)) (q / 32) 0 ≡ w + 2 ^ (p % 32)
  new q i = rw (i, ex) (get_or-set_same m (p / 32) (w + 2 ^ (p % 32)) 0 l)

  other : (q : ℕ) → (q / 32 ≡ p / 32 → ⊥) → member (set m (p / 32) (w + x)) q ≡ member m q
  unfolding member
  other q n = ap (bit (q % 32)) (get_or-set_other m (p / 32) (q / 32) (w + x) 0 n)

  clear : bit (p % 32) w ≡ false
  unfolding member
  clear = ap (bit (p % 32)) ew ∙ h

  pub joins : Added p m (set m (p / 32) (w + x))
  unfolding member
  joins = record {
    joined = λ q e. go q (eqb (q / 32) (p / 32)) refl e;
    kept = λ q e. keep q (eqb (q / 32) (p / 32)) refl e;
    here = λ _. ap (bit (p % 32)) (new p refl) ∙ bit_new (p % 32) w clear;
  }
    where
      go : (q : ℕ) (t : Bool) → eqb (q / 32) (p / 32) ≡ t → member (set m (p / 32) (w + x)) q ≡ true → (member m q ≡ true) ⊎ (q ≡ p)
      go q false n e = inl (sym (other q (eqb-false (q / 32) (p / 32) n)) ∙ e)
      go q true n e =
          let i : q / 32 ≡ p / 32 = eqb-true (q / 32) (p / 32) n in
          let g : get_or m (q / 32) 0 ≡ w = rw i (sym ew) in
          ⊎_elim (λ j. inl (ap (bit (q % 32)) g ∙ j)) (λ j. inr (omega arith)) (bit_joins (p % 32) (q % 32) w clear (ap (bit (q % 32)) (sym (new q i)) ∙ e))

      keep : (q : ℕ) (t : Bool) → eqb (q / 32) (p / 32) ≡ t → member m q ≡ true → member (set m (p / 32) (w + x)) q ≡ true
      keep q false n e = other q (eqb-false (q / 32) (p / 32) n) ∙ e
      keep q true n e =
          let i : q / 32 ≡ p / 32 = eqb-true (q / 32) (p / 32) n in
          let g : get_or m (q / 32) 0 ≡ w = rw i (sym ew) in
          ap (bit (q % 32)) (new q i) ∙ bit_keeps (p % 32) (q % 32) w clear (ap (bit (q % 32)) (sym g) ∙ e)

pub shifted : (p : ℕ) → (1 * 2 ^ (p % 32)) % 2 ^ 32 ≡ 2 ^ (p % 32)
shifted p = shl_exact {a = 1} 1 (p % 32) 32 (omega arith) (omega arith) ∙ one-mul (2 ^ (p % 32))

pub has_is : (w : List ℕ) (p x q : ℕ) → x ≡ get_or w (p / 32) 0 → q ≡ 2 ^ (p % 32) → eqb (x / q % 2) 1 ≡ member w p
unfolding member bit
has_is w p x q ex eq = rw (ex, eq)

pub add_room : (w : List ℕ) (p q : ℕ) → get_or w (p / 32) 0 < 4294967296 → q ≡ 2 ^ (p % 32) → member w p ≡ false → get_or w (p / 32) 0 + q < 4294967296
unfolding member
add_room w p q b eq h = rw eq (bit_room (p % 32) 32 (get_or w (p / 32) 0) (omega arith) b h)

-- ---- the definition, by the tests of the code

module _ (w : List ℕ) (p : ℕ) (b : Bool) (e : b ≡ member w p) where
  pub added_there : b ≡ true → w ≡ added w p
  unfolding added
  added_there h = let t : member w p ≡ true = sym e ∙ h in rw t

  pub added_new : (x q : ℕ) → b ≡ false → x ≡ get_or w (p / 32) 0 → q ≡ 2 ^ (p % 32) → set w (p / 32) (x + q) ≡ added w p
  unfolding added
  added_new x q h ex eq = let t : member w p ≡ false = sym e ∙ h in rw (t, ex, eq)

  pub added_out : b ≡ false → length w ≤ p / 32 → w ≡ added w p
  unfolding added
  added_out h l = let t : member w p ≡ false = sym e ∙ h in rw t (sym (set_out w (p / 32) (get_or w (p / 32) 0 + 2 ^ (p % 32)) l))

-- ---- what the definition means

pub added_is : (w : List ℕ) (p : ℕ) → Added p w (added w p)
added_is w p = go (member w p) refl (dec_lt (p / 32) (length w))
  where
    go : (t : Bool) → member w p ≡ t → Dec (p / 32 < length w) → Added p w (added w p)
    go true h d = rw (← (added_there w p true (sym h) refl)) (stays w p true (sym h) refl)
    go false h (yes d) = rw (← (added_new w p false (sym h) (get_or w (p / 32) 0) (2 ^ (p % 32)) refl refl refl)) (joins w p (get_or w (p / 32) 0) (2 ^ (p % 32)) d refl refl h)
    go false h (no d) = rw (← (added_out w p false (sym h) refl (omega arith))) (stays_out w p (omega arith))

pub length_added : (w : List ℕ) (p : ℕ) → length (added w p) ≡ length w
unfolding added
length_added w p = go (member w p)
  where
    go : (t : Bool) → length (cond t w (set w (p / 32) (get_or w (p / 32) 0 + 2 ^ (p % 32)))) ≡ length w
    go true = refl
    go false = length-set w (p / 32) (get_or w (p / 32) 0 + 2 ^ (p % 32))

-- ---- the union of two sets

odd_or : (m n : ℕ) → m < 2 → n < 2 → eqb (bit_or m n) 1 ≡ (eqb m 1 || eqb n 1)
odd_or zero n l h = refl
odd_or (suc zero) zero l h = refl
odd_or (suc zero) (suc zero) l h = refl
odd_or (suc zero) (suc (suc n)) l h = absurd (omega arith)
odd_or (suc (suc m)) n l h = absurd (omega arith)

bit_or_law : (s x y : ℕ) → bit s (bit_or x y) ≡ (bit s x || bit s y)
unfolding bit
bit_or_law s x y =
    ap (λ (m : ℕ). eqb (m % 2) 1) (or_shr x y s)
    ∙ ap (λ (m : ℕ). eqb m 1) (or_mod (x / 2 ^ s) (y / 2 ^ s) 1)
    ∙ odd_or (x / 2 ^ s % 2) (y / 2 ^ s % 2) (omega arith) (omega arith)

joined_at : (w v : List ℕ) (i : ℕ) → length w ≡ length v → get_or (joined w v) i 0 ≡ bit_or (get_or w i 0) (get_or v i 0)
unfolding joined
joined_at [] [] i e = refl
joined_at [] (y ∷ v) i e = absurd (omega arith)
joined_at (x ∷ w) [] i e = absurd (omega arith)
joined_at (x ∷ w) (y ∷ v) zero e = refl
joined_at (x ∷ w) (y ∷ v) (suc i) e = joined_at w v i (omega arith)

pub member_joined : (w v : List ℕ) (p : ℕ) → length w ≡ length v → member (joined w v) p ≡ (member w p || member v p)
unfolding member
member_joined w v p e = ap (bit (p % 32)) (joined_at w v (p / 32) e) ∙ bit_or_law (p % 32) (get_or w (p / 32) 0) (get_or v (p / 32) 0)

pub length_joined : (w v : List ℕ) → length (joined w v) ≡ length w
unfolding joined
length_joined [] v = refl
length_joined (x ∷ w) [] = refl
length_joined (x ∷ w) (y ∷ v) = ap suc (length_joined w v)

joined_none : (w : List ℕ) → joined w [] ≡ w
unfolding joined
joined_none [] = refl
joined_none (x ∷ w) = refl

-- where joining stands: the words of w below i are done, the others are left
pub record Joining (w₀ v w : List ℕ) (i : ℕ) : Type 0 where
  pub long : length w ≡ length w₀
  pub left : joined w₀ v ≡ take i w ++ joined (drop i w) (drop i v)

module _ (w₀ v w : List ℕ) (i : ℕ) (s : Joining w₀ v w i) where
  pub joining_on : i < length w → i < length v → Joining w₀ v (set w i (bit_or (get_or w i 0) (get_or v i 0))) (i + 1)
  unfolding joined
  joining_on h l =
      record {
        long = length-set w i (bit_or (get_or w i 0) (get_or v i 0)) ∙ s.long;
        left = s.left
            ∙ rw (drop-cons w i 0 h, drop-cons v i 0 l, add-one i, take-suc-set w i (bit_or (get_or w i 0) (get_or v i 0)) h, drop-set-lt (suc i) w i (bit_or (get_or w i 0) (get_or v i 0)) (omega arith))
            (sym (append_assoc (take i w) (bit_or (get_or w i 0) (get_or v i 0) ∷ []) (joined (drop (suc i) w) (drop (suc i) v))));
      }

  pub joining_end : min (length w) (length v) ≤ i → w ≡ joined w₀ v
  unfolding joined
  joining_end h = sym (s.left ∙ go (dec_le (length v) i))
    where
      go : Dec (length v ≤ i) → take i w ++ joined (drop i w) (drop i v) ≡ w
      go (yes g) = rw (drop_of_length-le v g, joined_none (drop i w)) (take-append-drop i w)
      go (no g) = let g' : length w ≤ i = omega arith in rw (drop_of_length-le w g', append-nil) (take_all i w g')
