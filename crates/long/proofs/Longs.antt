-- Sums and differences of longs as differences of natural numbers, when such a difference is in range, and products by size and sign. Assumes nothing.
use Prim.Native.Nat.{ℕ, zero, suc, ◌+◌, ◌-◌, ◌*◌, ◌/◌, ◌≤◌, ◌<◌}
use mathlib.Core.Path.{◌≡◌, refl, sym, ◌∙◌, ap, ap₂}
use mathlib.Core.Bool.{Bool, true, false, cond, not, beq}
use mathlib.Core.Option.{none, some}
use native.Mathlib.Nat.{mul-zero, zero-mul, le-div_iff_mul-le, div-lt_iff_lt-mul}
use native.Mathlib.Omega.{arith}
use native.Mathlib.Decide.{dec_lt, dec_le}
use borrow.Author.Tests.{lt-ltb, le-ltb, le-leb, lt-leb, leb-true, ltb-true}
use lib.Dec.{ltb, leb}
use lib.IntN.{ℤ, pos, negsuc, sub_ℕ, nat_abs, neg_ℤ, ◌+ℤ◌, ◌-ℤ◌, ◌*ℤ◌, zero-*ℤ}
use lib.Signed.{lt_z}
use Rattle.cedar.specs.Evaluate.{in_range}
use Rattle.sheet.specs.Bytes.{half, long_at}
use Rattle.std.specs.Prelude.{Option, Some, None, SomeIff}
use Rattle.long.specs.Ranged.{number_of, ranged, opposite}

-- a difference of natural numbers, by its sign
sub_less : (a b : ℕ) → a < b → sub_ℕ a b ≡ negsuc (b - suc a)
sub_less a b h = simp (lt-ltb _ _ h)

sub_more : (a b : ℕ) → b ≤ a → sub_ℕ a b ≡ pos (a - b)
sub_more a b h = simp (le-ltb _ _ h)

-- equal differences
sub_same : (a b c d : ℕ) → a + d ≡ c + b → sub_ℕ a b ≡ sub_ℕ c d
sub_same a b c d e = go (dec_lt a b)
  where
    go : Dec (a < b) → sub_ℕ a b ≡ sub_ℕ c d
    go (yes h) = sub_less a b h ∙ ap negsuc (omega arith) ∙ sym (sub_less c d (omega arith))
    go (no h) = sub_more a b (omega arith) ∙ ap pos (omega arith) ∙ sym (sub_more c d (omega arith))

neg_sub : (a b : ℕ) → neg_ℤ (sub_ℕ a b) ≡ sub_ℕ b a
neg_sub a b = go (dec_lt a b) (dec_lt b a)
  where
    go : Dec (a < b) → Dec (b < a) → neg_ℤ (sub_ℕ a b) ≡ sub_ℕ b a
    go (yes h) g = ap neg_ℤ (sub_less a b h) ∙ ap pos (omega arith) ∙ sym (sub_more b a (omega arith))
    go (no h) (yes g) =
        ap neg_ℤ (sub_more a b (omega arith) ∙ ap pos eq) ∙ sym (sub_less b a g)
      where
        eq : a - b ≡ suc (a - suc b)
        eq = omega arith
    go (no h) (no g) =
        ap neg_ℤ (sub_more a b (omega arith) ∙ ap pos eq) ∙ ap pos (sym eq') ∙ sym (sub_more b a (omega arith))
      where
        eq : a - b ≡ 0
        eq = omega arith

        eq' : b - a ≡ 0
        eq' = omega arith

add_sub : (a b c d : ℕ) → sub_ℕ a b +ℤ sub_ℕ c d ≡ sub_ℕ (a + c) (b + d)
add_sub a b c d = go (dec_lt a b) (dec_lt c d)
  where
    go : Dec (a < b) → Dec (c < d) → sub_ℕ a b +ℤ sub_ℕ c d ≡ sub_ℕ (a + c) (b + d)
    go (yes h) (yes g) =
        ap₂ ◌+ℤ◌ (sub_less a b h) (sub_less c d g) ∙ ap negsuc (omega arith) ∙ sym (sub_less (a + c) (b + d) (omega arith))
    go (yes h) (no g) = ap₂ ◌+ℤ◌ (sub_less a b h) (sub_more c d (omega arith)) ∙ sub_same (c - d) (suc (b - suc a)) (a + c) (b + d) (omega arith)
    go (no h) (yes g) = ap₂ ◌+ℤ◌ (sub_more a b (omega arith)) (sub_less c d g) ∙ sub_same (a - b) (suc (d - suc c)) (a + c) (b + d) (omega arith)
    go (no h) (no g) =
        ap₂ ◌+ℤ◌ (sub_more a b (omega arith)) (sub_more c d (omega arith)) ∙ ap pos (omega arith) ∙ sym (sub_more (a + c) (b + d) (omega arith))

-- the order of two differences
lt_sub : (a b c d : ℕ) → lt_z (sub_ℕ a b) (sub_ℕ c d) ≡ ltb (a + d) (c + b)
lt_sub a b c d = go (dec_lt a b) (dec_lt c d) (dec_lt (a + d) (c + b))
  where
    go : Dec (a < b) → Dec (c < d) → Dec (a + d < c + b) → lt_z (sub_ℕ a b) (sub_ℕ c d) ≡ ltb (a + d) (c + b)
    go (yes h) (yes g) (yes k) = ap₂ lt_z (sub_less a b h) (sub_less c d g) ∙ lt-ltb (d - suc c) (b - suc a) (omega arith) ∙ sym (lt-ltb (a + d) (c + b) k)
    go (yes h) (yes g) (no k) = ap₂ lt_z (sub_less a b h) (sub_less c d g) ∙ le-ltb (d - suc c) (b - suc a) (omega arith) ∙ sym (le-ltb (a + d) (c + b) (omega arith))
    go (yes h) (no g) k = ap₂ lt_z (sub_less a b h) (sub_more c d (omega arith)) ∙ sym (lt-ltb (a + d) (c + b) (omega arith))
    go (no h) (yes g) k = ap₂ lt_z (sub_more a b (omega arith)) (sub_less c d g) ∙ sym (le-ltb (a + d) (c + b) (omega arith))
    go (no h) (no g) (yes k) = ap₂ lt_z (sub_more a b (omega arith)) (sub_more c d (omega arith)) ∙ lt-ltb (a - b) (c - d) (omega arith) ∙ sym (lt-ltb (a + d) (c + b) k)
    go (no h) (no g) (no k) = ap₂ lt_z (sub_more a b (omega arith)) (sub_more c d (omega arith)) ∙ le-ltb (a - b) (c - d) (omega arith) ∙ sym (le-ltb (a + d) (c + b) (omega arith))

-- ---- a long is a difference

pub long_sub : (w : ℕ) → long_at w ≡ sub_ℕ w half
long_sub w = go (dec_le half w)
  where
    go : Dec (half ≤ w) → long_at w ≡ sub_ℕ w half
    go (yes h) = simp (le-leb _ _ h) (sym (sub_more w half h))
    go (no h) = simp (lt-leb half w (omega arith)) (ap negsuc (omega arith) ∙ sym (sub_less w half (omega arith)))

-- the numbers of the range: their sizes
pub range_up : (k : ℕ) → in_range (pos k) ≡ leb k 9223372036854775807
range_up k = refl

pub range_down : (k : ℕ) → in_range (neg_ℤ (pos k)) ≡ leb k half
range_down zero = sym (le-leb 0 half (omega arith))
range_down (suc k) = go (dec_le k 9223372036854775807)
  where
    go : Dec (k ≤ 9223372036854775807) → in_range (negsuc k) ≡ leb (suc k) half
    go (yes h) = rw (le-leb k 9223372036854775807 h, le-leb (suc k) half (omega arith))
    go (no h) = rw (lt-leb k 9223372036854775807 (omega arith), lt-leb (suc k) half (omega arith))

-- ---- what an answer says, for those who go by cases

pub ranged_in : (z : ℤ) (w : ℕ) → some (long_at w) ≡ ranged z → (in_range z ≡ true) × (long_at w ≡ z)
unfolding ranged
ranged_in z w e = go (in_range z) e
  where
    go : (t : Bool) → some (long_at w) ≡ cond t (some z) none → (t ≡ true) × (long_at w ≡ z)
    go true q = (refl, cc)
    go false q = let y : ◌≡◌ {A = ℕ} 0 1 = cc in absurd (omega arith)

pub ranged_out : (z : ℤ) → none ≡ ranged z → in_range z ≡ false
unfolding ranged
ranged_out z e = go (in_range z) e
  where
    go : (t : Bool) → none ≡ cond t (some z) none → t ≡ false
    go true q = let y : ◌≡◌ {A = ℕ} 0 1 = cc in absurd (omega arith)
    go false q = refl

-- ---- a difference in range, below it and above it

answer : (z : ℤ) (w : ℕ) → in_range z ≡ true → long_at w ≡ z → number_of (Some w) ≡ ranged z
unfolding ranged
answer z w h e = rw h (ap some e)

pub answer_outside : (z : ℤ) → in_range z ≡ false → number_of None ≡ ranged z
unfolding ranged
answer_outside z h = rw h

sub_in : (a b w : ℕ) → w + b ≡ a + half → w < 18446744073709551616 → in_range (sub_ℕ a b) ≡ true
sub_in a b w e l = go (dec_lt a b)
  where
    go : Dec (a < b) → in_range (sub_ℕ a b) ≡ true
    go (yes h) = ap in_range (sub_less a b h) ∙ rw (le-leb (b - suc a) 9223372036854775807 (omega arith))
    go (no h) = ap in_range (sub_more a b (omega arith)) ∙ rw (le-leb (a - b) 9223372036854775807 (omega arith))

pub answer_in : (z : ℤ) (a b w : ℕ) → z ≡ sub_ℕ a b → w + b ≡ a + half → w < 18446744073709551616 → number_of (Some w) ≡ ranged z
answer_in z a b w p e l = answer z w (ap in_range p ∙ sub_in a b w e l) (long_sub w ∙ sub_same w half a b (omega arith) ∙ sym p)

pub answer_below : (z : ℤ) (a b : ℕ) → z ≡ sub_ℕ a b → a + half < b → number_of None ≡ ranged z
answer_below z a b p h = answer_outside z (ap in_range (p ∙ sub_less a b (omega arith)) ∙ rw (lt-leb (b - suc a) 9223372036854775807 (omega arith)))

pub answer_above : (z : ℤ) (a b : ℕ) → z ≡ sub_ℕ a b → b + half ≤ a → number_of None ≡ ranged z
answer_above z a b p h = answer_outside z (ap in_range (p ∙ sub_more a b (omega arith)) ∙ rw (lt-leb (a - b) 9223372036854775807 (omega arith)))

-- a difference as the checked operations of words give it: what is d less than x, or d more
pub answer_less : (r : Option ℕ) (z : ℤ) (a b x d : ℕ) → SomeIff r (d ≤ x) (x - d) → z ≡ sub_ℕ a b → x < 18446744073709551616 → a + half + d ≡ x + b → number_of r ≡ ranged z
answer_less (Some w) z a b x d c p l e = answer_in z a b w p (omega (arith, c.0, c.1)) (omega (arith, c.0, c.1))
answer_less None z a b x d c p l e = answer_below z a b p (omega (arith, c))

pub answer_more : (r : Option ℕ) (z : ℤ) (a b x d : ℕ) → SomeIff r (x + d < 18446744073709551616) (x + d) → z ≡ sub_ℕ a b → a + half ≡ x + d + b → number_of r ≡ ranged z
answer_more (Some w) z a b x d c p e = answer_in z a b w p (omega (arith, c.0, c.1)) (omega (arith, c.0, c.1))
answer_more None z a b x d c p e = answer_above z a b p (omega (arith, c))

-- ---- the operations, as differences

pub long_add : (a b : ℕ) → long_at a +ℤ long_at b ≡ sub_ℕ (a + b) 18446744073709551616
long_add a b = ap₂ ◌+ℤ◌ (long_sub a) (long_sub b) ∙ add_sub a half b half

pub long_neg : (a : ℕ) → neg_ℤ (long_at a) ≡ sub_ℕ half a
long_neg a = ap neg_ℤ (long_sub a) ∙ neg_sub a half

pub long_minus : (a b : ℕ) → long_at a -ℤ long_at b ≡ sub_ℕ a b
long_minus a b =
    ap₂ ◌+ℤ◌ (long_sub a) (long_neg b)
    ∙ add_sub a half half b
    ∙ sub_same (a + half) (half + b) a b (omega arith)

pub long_less : (a b : ℕ) → ltb a b ≡ lt_z (long_at a) (long_at b)
long_less a b = sym (ap₂ lt_z (long_sub a) (long_sub b) ∙ lt_sub a half b half ∙ go (dec_lt a b))
  where
    go : Dec (a < b) → ltb (a + half) (b + half) ≡ ltb a b
    go (yes h) = lt-ltb (a + half) (b + half) (omega arith) ∙ sym (lt-ltb a b h)
    go (no h) = le-ltb (a + half) (b + half) (omega arith) ∙ sym (le-ltb a b (omega arith))

-- ---- products, by size and sign

pub long_negative : (w : ℕ) → w < half → long_at w ≡ neg_ℤ (pos (half - w))
long_negative w h = long_sub w ∙ sym (neg_sub half w) ∙ ap neg_ℤ (sub_more half w (omega arith))

pub long_positive : (w : ℕ) → half ≤ w → long_at w ≡ pos (w - half)
long_positive w h = long_sub w ∙ sub_more w half h

-- the word of a size, negative
long_down : (k : ℕ) → k ≤ half → long_at (half - k) ≡ neg_ℤ (pos k)
long_down zero h =
    let z : half - 0 - half ≡ 0 = omega arith in
    long_positive (half - 0) (omega arith) ∙ ap pos z
long_down (suc k) h =
    let z : half - (half - suc k) ≡ suc k = omega arith in
    long_negative (half - suc k) (omega arith) ∙ ap (λ (x : ℕ). neg_ℤ (pos x)) z

abs_neg : (k : ℕ) → nat_abs (neg_ℤ (pos k)) ≡ k
abs_neg zero = refl
abs_neg (suc k) = refl

pub size_negative : (w : ℕ) → w < half → half - w ≡ nat_abs (long_at w)
size_negative w h = sym (ap nat_abs (long_negative w h) ∙ abs_neg (half - w))

pub size_positive : (w : ℕ) → half ≤ w → w - half ≡ nat_abs (long_at w)
size_positive w h = sym (ap nat_abs (long_positive w h))

plus_minus : (m n : ℕ) → pos m *ℤ neg_ℤ (pos n) ≡ neg_ℤ (pos (m * n))
plus_minus m zero = ap pos (mul-zero m) ∙ ap (λ (k : ℕ). neg_ℤ (pos k)) (sym (mul-zero m))
plus_minus m (suc n) = refl

minus_plus : (m n : ℕ) → neg_ℤ (pos m) *ℤ pos n ≡ neg_ℤ (pos (m * n))
minus_plus zero n = ap pos (zero-mul n) ∙ ap (λ (k : ℕ). neg_ℤ (pos k)) (sym (zero-mul n))
minus_plus (suc m) n = refl

minus_minus : (m n : ℕ) → neg_ℤ (pos m) *ℤ neg_ℤ (pos n) ≡ pos (m * n)
minus_minus zero n = zero-*ℤ (neg_ℤ (pos n)) ∙ ap pos (sym (zero-mul n))
minus_minus (suc m) zero = ap (λ (k : ℕ). neg_ℤ (pos k)) (mul-zero (suc m)) ∙ ap pos (sym (mul-zero (suc m)))
minus_minus (suc m) (suc n) = refl

-- the number of a size: negative or not
abbrev pub signed_by : Bool → ℕ → ℤ
signed_by true k = neg_ℤ (pos k)
signed_by false k = pos k

signed_as : (t u : Bool) (m n x y : ℕ) → u ≡ t → m ≡ x → n ≡ y → signed_by t (m * n) ≡ signed_by u (x * y)
signed_as t u m n x y e p q = cc

-- a product from the sizes of its factors
pub product_is : (a b : ℕ) → long_at a *ℤ long_at b ≡ signed_by (opposite a b) (nat_abs (long_at a) * nat_abs (long_at b))
unfolding opposite
product_is a b = go (dec_lt a half) (dec_lt b half)
  where
    x : ℕ
    x = nat_abs (long_at a)

    y : ℕ
    y = nat_abs (long_at b)

    go : Dec (a < half) → Dec (b < half) → long_at a *ℤ long_at b ≡ signed_by (opposite a b) (x * y)
    go (yes h) (yes g) =
        let t : opposite a b ≡ false = rw (lt-ltb a half h, lt-leb half b g) in
        ap₂ ◌*ℤ◌ (long_negative a h) (long_negative b g) ∙ minus_minus (half - a) (half - b)
        ∙ signed_as false (opposite a b) (half - a) (half - b) x y t (size_negative a h) (size_negative b g)
    go (yes h) (no n) =
        let g : half ≤ b = omega arith in
        let t : opposite a b ≡ true = rw (lt-ltb a half h, le-leb half b g) in
        ap₂ ◌*ℤ◌ (long_negative a h) (long_positive b g) ∙ minus_plus (half - a) (b - half)
        ∙ signed_as true (opposite a b) (half - a) (b - half) x y t (size_negative a h) (size_positive b g)
    go (no n) (yes g) =
        let h : half ≤ a = omega arith in
        let t : opposite a b ≡ true = rw (le-ltb a half h, lt-ltb b half g) in
        ap₂ ◌*ℤ◌ (long_positive a h) (long_negative b g) ∙ plus_minus (a - half) (half - b)
        ∙ signed_as true (opposite a b) (a - half) (half - b) x y t (size_positive a h) (size_negative b g)
    go (no n) (no k) =
        let h : half ≤ a = omega arith in
        let g : half ≤ b = omega arith in
        let t : opposite a b ≡ false = rw (le-ltb a half h, le-ltb b half g) in
        ap₂ ◌*ℤ◌ (long_positive a h) (long_positive b g)
        ∙ signed_as false (opposite a b) (a - half) (b - half) x y t (size_positive a h) (size_positive b g)

-- a product is at most c exactly where one factor is at most c over the other
product_in : (c m n : ℕ) → (n ≡ 0 → ⊥) → m ≤ c / n → m * n ≤ c
product_in c m n h l = (le-div_iff_mul-le {k = n} {x = m} {y = c} (omega arith)).0 l

product_over : (c m n : ℕ) → (n ≡ 0 → ⊥) → c / n < m → c < m * n
product_over c m n h l = (div-lt_iff_lt-mul {k = n} {x = c} {y = m} (omega arith)).0 l

pub product_most : (c m n : ℕ) → (n ≡ 0 → ⊥) → leb m (c / n) ≡ leb (m * n) c
product_most c m n h = go (dec_le m (c / n))
  where
    go : Dec (m ≤ c / n) → leb m (c / n) ≡ leb (m * n) c
    go (yes d) = le-leb m (c / n) d ∙ sym (le-leb (m * n) c (product_in c m n h d))
    go (no d) = lt-leb m (c / n) (omega arith) ∙ sym (lt-leb (m * n) c (product_over c m n h (omega arith)))

-- a product in range, from the sizes and signs of its factors
module _ (a b m n : ℕ) (em : m ≡ nat_abs (long_at a)) (en : n ≡ nat_abs (long_at b)) (t : Bool) (et : t ≡ opposite a b) (h : in_range (long_at a *ℤ long_at b) ≡ true) where
  product : (u : Bool) → t ≡ u → long_at a *ℤ long_at b ≡ signed_by u (m * n)
  product u e = product_is a b ∙ signed_as (opposite a b) u (nat_abs (long_at a)) (nat_abs (long_at b)) m n (sym e ∙ et) (sym em) (sym en)

  pub product_low : t ≡ true → m * n ≤ half
  product_low e = leb-true (m * n) half (sym (ap in_range (product true e) ∙ range_down (m * n)) ∙ h)

  pub product_high : t ≡ false → m * n ≤ 9223372036854775807
  product_high e = leb-true (m * n) 9223372036854775807 (sym (ap in_range (product false e) ∙ range_up (m * n)) ∙ h)

  pub product_fits : m * n ≤ half
  product_fits = go t refl
    where
      go : (u : Bool) → t ≡ u → m * n ≤ half
      go true e = product_low e
      go false e = omega (arith, product_high e)

  pub product_opposed : t ≡ true → number_of (Some (9223372036854775808 - m * n)) ≡ ranged (long_at a *ℤ long_at b)
  product_opposed e = answer (long_at a *ℤ long_at b) (half - m * n) h (long_down (m * n) (product_low e) ∙ sym (product true e))

  pub product_alike : t ≡ false → number_of (Some (9223372036854775808 + m * n)) ≡ ranged (long_at a *ℤ long_at b)
  product_alike e =
      answer (long_at a *ℤ long_at b) (half + m * n) h
      (long_positive (half + m * n) (omega arith) ∙ ap pos (omega arith) ∙ sym (product false e))

-- whether two signs differ, by the tests of the code
pub opposite_is : (a b : ℕ) → not (beq (ltb a half) (ltb b half)) ≡ opposite a b
unfolding opposite
opposite_is a b = go (dec_lt a half) (dec_lt b half)
  where
    go : Dec (a < half) → Dec (b < half) → not (beq (ltb a half) (ltb b half)) ≡ cond (ltb a half) (leb half b) (ltb b half)
    go (yes h) (yes g) = rw (lt-ltb a half h, lt-ltb b half g, lt-leb half b g)
    go (yes h) (no g) = let k : half ≤ b = omega arith in rw (lt-ltb a half h, le-ltb b half k, le-leb half b k)
    go (no h) (yes g) = let k : half ≤ a = omega arith in rw (le-ltb a half k, lt-ltb b half g)
    go (no h) (no g) = let k : half ≤ a = omega arith in let l : half ≤ b = omega arith in rw (le-ltb a half k, le-ltb b half l)
