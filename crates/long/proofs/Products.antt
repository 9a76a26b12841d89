-- Products by sign: each pair of numbers falls in exactly one case, and the case's test says outside exactly where the product is. Both hold of all
-- integers, so of all longs. Assumes nothing.
use Prim.Native.Nat.{ℕ, zero, suc, ◌*◌, ◌/◌, ◌≤◌, ◌<◌}
use mathlib.Core.Path.{◌≡◌, refl, sym, ◌∙◌, ap, ap₂}
use mathlib.Core.Bool.{Bool, true, false, not, ◌&&◌, or-false}
use native.Mathlib.Nat.{mul_comm}
use native.Mathlib.Omega.{arith}
use native.Mathlib.Decide.{dec_lt, dec_le}
use borrow.Author.Tests.{lt-ltb, le-ltb, le-leb, lt-leb, eqb-true, eqb-false, ltb-false, eq-eqb, ne_eqb, not-true}
use lib.Dec.{ltb, leb, eqb}
use lib.IntN.{ℤ, pos, negsuc, neg_ℤ, nat_abs, ◌*ℤ◌, zero-*ℤ, *ℤ_comm}
use lib.Signed.{lt_z, le_z}
use Rattle.cedar.specs.Evaluate.{in_range}
use Rattle.cedar.proofs.Tools.{no_true, either, neither, and_both, both}
use Rattle.sheet.specs.Bytes.{half}
use Rattle.long.specs.Products.{least, greatest, eq_z, positive, negative, among, plain, Case, with_zero, with_smallest, both_positive, positive_negative, negative_positive, both_negative, holds, by_signs, case_of, outside}
use Rattle.long.proofs.Longs.{range_down, product_most}

-- the range is the one of the complete run
pub range_is : (z : ℤ) → in_range z ≡ (le_z least z && le_z z greatest)
range_is z = refl

-- ---- exactly one case

-- a number other than zero is positive or negative, and not both
other_sign : (z : ℤ) → eq_z z (pos 0) ≡ false → positive z ≡ false → negative z ≡ true
other_sign (pos n) e p = absurd (eqb-false n 0 e (omega (arith, ltb-false 0 n p)))
other_sign (negsuc n) e p = refl

one_sign : (z : ℤ) → negative z ≡ true → positive z ≡ false
one_sign (pos n) e = no_true (sym (le-ltb n 0 (omega arith)) ∙ e)
one_sign (negsuc n) e = refl

pub case_zero : (a b : ℤ) → among (pos 0) a b ≡ true → case_of a b ≡ with_zero
unfolding case_of
case_zero a b z = rw z

pub case_smallest : (a b : ℤ) → among (pos 0) a b ≡ false → among least a b ≡ true → case_of a b ≡ with_smallest
unfolding case_of
case_smallest a b z l = rw (z, l)

pub case_signs : (a b : ℤ) → among (pos 0) a b ≡ false → among least a b ≡ false → case_of a b ≡ by_signs (positive a) (positive b)
unfolding case_of
case_signs a b z l = rw (z, l)

plain_is : (a b : ℤ) → among (pos 0) a b ≡ false → among least a b ≡ false → plain a b ≡ true
plain_is a b z l = rw (z, l)

-- "each pair of longs falls in .. one case": the one that `case_of` gives
pub in_case : (a b : ℤ) → holds (case_of a b) a b ≡ true
in_case a b = go (among (pos 0) a b) refl (among least a b) refl
  where
    signs : (p q : Bool) → positive a ≡ p → positive b ≡ q → among (pos 0) a b ≡ false → plain a b ≡ true → holds (by_signs p q) a b ≡ true
    signs true true p q z h = both h (both p q)
    signs true false p q z h = both h (both p (other_sign b (neither (eq_z a (pos 0)) (eq_z b (pos 0)) z).1 q))
    signs false true p q z h = both h (both (other_sign a (neither (eq_z a (pos 0)) (eq_z b (pos 0)) z).0 p) q)
    signs false false p q z h =
        let e : (eq_z a (pos 0) ≡ false) × (eq_z b (pos 0) ≡ false) = neither (eq_z a (pos 0)) (eq_z b (pos 0)) z in
        both h (both (other_sign a e.0 p) (other_sign b e.1 q))

    go : (z : Bool) → among (pos 0) a b ≡ z → (l : Bool) → among least a b ≡ l → holds (case_of a b) a b ≡ true
    go true z l e = ap (λ (c : Case). holds c a b) (case_zero a b z) ∙ z
    go false z true l = ap (λ (c : Case). holds c a b) (case_smallest a b z l) ∙ both (ap not z) l
    go false z false l = ap (λ (c : Case). holds c a b) (case_signs a b z l) ∙ signs (positive a) (positive b) refl refl z (plain_is a b z l)

-- what the case of a pair of signs says
module _ (a b : ℤ) (x y : Bool) (h : (plain a b && (x && y)) ≡ true) where
  signs_hold : (x ≡ true) × (y ≡ true)
  signs_hold = and_both (plain a b) (x && y) h (λ e s. and_both x y s (λ u v. (u, v)))

  case_signed : case_of a b ≡ by_signs (positive a) (positive b)
  case_signed =
      and_both (plain a b) (x && y) h (λ e s. and_both (not (among (pos 0) a b)) (not (among least a b)) e
      (λ z l. case_signs a b (not-true (among (pos 0) a b) z) (not-true (among least a b) l)))

-- "exactly one": no other holds
pub only_case : (c : Case) (a b : ℤ) → holds c a b ≡ true → case_of a b ≡ c
only_case with_zero a b h = case_zero a b h
only_case with_smallest a b h =
    and_both (not (among (pos 0) a b)) (among least a b) h (λ z l. case_smallest a b (not-true (among (pos 0) a b) z) l)
only_case both_positive a b h =
    let s : (positive a ≡ true) × (positive b ≡ true) = signs_hold a b (positive a) (positive b) h in
    case_signed a b (positive a) (positive b) h ∙ ap₂ by_signs s.0 s.1
only_case positive_negative a b h =
    let s : (positive a ≡ true) × (negative b ≡ true) = signs_hold a b (positive a) (negative b) h in
    case_signed a b (positive a) (negative b) h ∙ ap₂ by_signs s.0 (one_sign b s.1)
only_case negative_positive a b h =
    let s : (negative a ≡ true) × (positive b ≡ true) = signs_hold a b (negative a) (positive b) h in
    case_signed a b (negative a) (positive b) h ∙ ap₂ by_signs (one_sign a s.0) s.1
only_case both_negative a b h =
    let s : (negative a ≡ true) × (negative b ≡ true) = signs_hold a b (negative a) (negative b) h in
    case_signed a b (negative a) (negative b) h ∙ ap₂ by_signs (one_sign a s.0) (one_sign b s.1)

-- ---- the tests, by the sizes of the factors

pub data Up : ℤ → Type 0 where
  up : (n : ℕ) → Up (pos (suc n))

pub data Down : ℤ → Type 0 where
  down : (n : ℕ) → Down (negsuc n)

is_up : (z : ℤ) → positive z ≡ true → Up z
is_up (pos zero) e = no_true e
is_up (pos (suc n)) e = up n
is_up (negsuc n) e = no_true e

is_down : (z : ℤ) → negative z ≡ true → Down z
is_down (pos n) e = no_true (sym (le-ltb n 0 (omega arith)) ∙ e)
is_down (negsuc n) e = down n

pub up_sized : {z : ℤ} → Up z → 0 < nat_abs z
up_sized (up n) = omega arith

pub down_sized : {z : ℤ} → Down z → 0 < nat_abs z
down_sized (down n) = omega arith

below : (n k : ℕ) → lt_z (negsuc n) (neg_ℤ (pos k)) ≡ ltb k (suc n)
below n zero = sym (lt-ltb 0 (suc n) (omega arith))
below n (suc k) = go (dec_lt k n)
  where
    go : Dec (k < n) → ltb k n ≡ ltb (suc k) (suc n)
    go (yes h) = lt-ltb k n h ∙ sym (lt-ltb (suc k) (suc n) (omega arith))
    go (no h) = le-ltb k n (omega arith) ∙ sym (le-ltb (suc k) (suc n) (omega arith))

pub size_pp : {a b : ℤ} → Up a → Up b → outside both_positive a b ≡ ltb (9223372036854775807 / nat_abs b) (nat_abs a)
size_pp (up m) (up n) = refl

pub size_pn : {a b : ℤ} → Up a → Down b → outside positive_negative a b ≡ ltb (half / nat_abs a) (nat_abs b)
size_pn (up m) (down n) = below n (half / suc m)

pub size_np : {a b : ℤ} → Down a → Up b → outside negative_positive a b ≡ ltb (half / nat_abs b) (nat_abs a)
size_np (down m) (up n) = below m (half / suc n)

pub size_nn : {a b : ℤ} → Down a → Down b → outside both_negative a b ≡ ltb (9223372036854775807 / nat_abs b) (nat_abs a)
size_nn (down m) (down n) = refl

-- a factor is over c over the other exactly where the product is over c
over : (c m n : ℕ) → (n ≡ 0 → ⊥) → ltb (c / n) m ≡ not (leb (m * n) c)
over c m n h = go (dec_le m (c / n)) ∙ ap not (product_most c m n h)
  where
    go : Dec (m ≤ c / n) → ltb (c / n) m ≡ not (leb m (c / n))
    go (yes d) = le-ltb (c / n) m d ∙ ap not (sym (le-leb m (c / n) d))
    go (no d) = lt-ltb (c / n) m (omega arith) ∙ ap not (sym (lt-leb m (c / n) (omega arith)))

exact_pp : {a b : ℤ} → Up a → Up b → outside both_positive a b ≡ not (in_range (a *ℤ b))
exact_pp (up m) (up n) = over 9223372036854775807 (suc m) (suc n) (omega arith)

exact_pn : {a b : ℤ} → Up a → Down b → outside positive_negative a b ≡ not (in_range (a *ℤ b))
exact_pn (up m) (down n) =
    below n (half / suc m) ∙ over half (suc n) (suc m) (omega arith)
    ∙ ap not (ap (λ (k : ℕ). leb k half) (mul_comm (suc n) (suc m)) ∙ sym (range_down (suc m * suc n)))

exact_np : {a b : ℤ} → Down a → Up b → outside negative_positive a b ≡ not (in_range (a *ℤ b))
exact_np (down m) (up n) = below m (half / suc n) ∙ over half (suc m) (suc n) (omega arith) ∙ ap not (sym (range_down (suc m * suc n)))

exact_nn : {a b : ℤ} → Down a → Down b → outside both_negative a b ≡ not (in_range (a *ℤ b))
exact_nn (down m) (down n) = over 9223372036854775807 (suc m) (suc n) (omega arith)

-- the signs in each case
module _ (a b : ℤ) where
  pub signs_pp : holds both_positive a b ≡ true → Up a × Up b
  signs_pp h = let s : (positive a ≡ true) × (positive b ≡ true) = signs_hold a b (positive a) (positive b) h in (is_up a s.0, is_up b s.1)

  pub signs_pn : holds positive_negative a b ≡ true → Up a × Down b
  signs_pn h = let s : (positive a ≡ true) × (negative b ≡ true) = signs_hold a b (positive a) (negative b) h in (is_up a s.0, is_down b s.1)

  pub signs_np : holds negative_positive a b ≡ true → Down a × Up b
  signs_np h = let s : (negative a ≡ true) × (positive b ≡ true) = signs_hold a b (negative a) (positive b) h in (is_down a s.0, is_up b s.1)

  pub signs_nn : holds both_negative a b ≡ true → Down a × Down b
  signs_nn h = let s : (negative a ≡ true) × (negative b ≡ true) = signs_hold a b (negative a) (negative b) h in (is_down a s.0, is_down b s.1)

-- ---- zero and the smallest number

pub eq_z_true : (a b : ℤ) → eq_z a b ≡ true → a ≡ b
eq_z_true (pos m) (pos n) e = ap pos (eqb-true m n e)
eq_z_true (pos m) (negsuc n) e = no_true e
eq_z_true (negsuc m) (pos n) e = no_true e
eq_z_true (negsuc m) (negsuc n) e = ap negsuc (eqb-true m n e)

zero_inside : (a b : ℤ) → among (pos 0) a b ≡ true → in_range (a *ℤ b) ≡ true
zero_inside a b h =
    either (eq_z a (pos 0)) (eq_z b (pos 0)) h (λ e. first a b (eq_z_true a (pos 0) e))
    (λ e. ap in_range (*ℤ_comm a b) ∙ first b a (eq_z_true b (pos 0) e))
  where
    first : (x y : ℤ) → x ≡ pos 0 → in_range (x *ℤ y) ≡ true
    first x y e = ap in_range (ap (λ (z : ℤ). z *ℤ y) e ∙ zero-*ℤ y)

smallest_beside : (z : ℤ) → eq_z z (pos 0) ≡ false → eq_z z (pos 1) ≡ in_range (least *ℤ z)
smallest_beside (pos n) e = go (dec_le n 1) ∙ sym (range_down (half * n))
  where
    go : Dec (n ≤ 1) → eqb n 1 ≡ leb (half * n) half
    go (yes h) =
        let k : n ≡ 1 = omega (arith, eqb-false n 0 e) in
        eq-eqb n 1 k ∙ sym (le-leb (half * n) half (omega arith))
    go (no h) = ne_eqb n 1 (omega arith) ∙ sym (lt-leb (half * n) half (omega arith))
smallest_beside (negsuc n) e = sym (lt-leb (half * suc n) 9223372036854775807 (omega arith))

smallest_exact : (a b : ℤ) → among (pos 0) a b ≡ false → among least a b ≡ true → outside with_smallest a b ≡ not (in_range (a *ℤ b))
smallest_exact a b z l = ap not (either (eq_z a least) (eq_z b least) l first second)
  where
    e : (eq_z a (pos 0) ≡ false) × (eq_z b (pos 0) ≡ false)
    e = neither (eq_z a (pos 0)) (eq_z b (pos 0)) z

    first : eq_z a least ≡ true → among (pos 1) a b ≡ in_range (a *ℤ b)
    first h =
        let k : a ≡ least = eq_z_true a least h in
        ap (λ (x : ℤ). among (pos 1) x b) k ∙ smallest_beside b e.1 ∙ ap (λ (x : ℤ). in_range (x *ℤ b)) (sym k)

    second : eq_z b least ≡ true → among (pos 1) a b ≡ in_range (a *ℤ b)
    second h =
        let k : b ≡ least = eq_z_true b least h in
        ap (λ (x : ℤ). among (pos 1) a x) k ∙ or-false (eq_z a (pos 1)) ∙ smallest_beside a e.0
        ∙ ap (λ (x : ℤ). in_range (x *ℤ a)) (sym k) ∙ ap in_range (*ℤ_comm b a)

-- ---- "its test says outside exactly when the product is"

pub test_exact : (c : Case) (a b : ℤ) → holds c a b ≡ true → outside c a b ≡ not (in_range (a *ℤ b))
test_exact with_zero a b h = ap not (sym (zero_inside a b h))
test_exact with_smallest a b h =
    and_both (not (among (pos 0) a b)) (among least a b) h (λ z l. smallest_exact a b (not-true (among (pos 0) a b) z) l)
test_exact both_positive a b h = let s : Up a × Up b = signs_pp a b h in exact_pp s.0 s.1
test_exact positive_negative a b h = let s : Up a × Down b = signs_pn a b h in exact_pn s.0 s.1
test_exact negative_positive a b h = let s : Down a × Up b = signs_np a b h in exact_np s.0 s.1
test_exact both_negative a b h = let s : Down a × Down b = signs_nn a b h in exact_nn s.0 s.1

pub outside_exact : (a b : ℤ) → outside (case_of a b) a b ≡ not (in_range (a *ℤ b))
outside_exact a b = test_exact (case_of a b) a b (in_case a b)

-- ---- each case met, inside and outside the range, with the product's own place

-- what a case's theorems ask and say of one pair
abbrev pub Seen : Case → Bool → ℤ → ℤ → Type 0
Seen c t a b = (holds c a b ≡ true) × (case_of a b ≡ c) × (outside c a b ≡ t) × (not (in_range (a *ℤ b)) ≡ t)

pub seen_zero : Seen with_zero false (pos 0) least × Seen with_zero false least (pos 0) × Seen with_zero false (pos 0) (pos 0)
unfolding case_of
seen_zero = ((refl, refl, refl, refl), (refl, refl, refl, refl), (refl, refl, refl, refl))

pub seen_smallest : Seen with_smallest false least (pos 1) × Seen with_smallest false (pos 1) least × Seen with_smallest true least (negsuc 0) × Seen with_smallest true (pos 2) least × Seen with_smallest true least least
unfolding case_of
seen_smallest = ((refl, refl, refl, refl), (refl, refl, refl, refl), (refl, refl, refl, refl), (refl, refl, refl, refl), (refl, refl, refl, refl))

-- 3,037,000,499 times 3,037,000,500 is the last product of two neighbours inside; 2^32 times 2^31 is 2^63
pub seen_positive : Seen both_positive false (pos 3037000499) (pos 3037000500) × Seen both_positive true (pos 3037000500) (pos 3037000500) × Seen both_positive false greatest (pos 1) × Seen both_positive true (pos 4294967296) (pos 2147483648)
unfolding case_of
seen_positive = ((refl, refl, refl, refl), (refl, refl, refl, refl), (refl, refl, refl, refl), (refl, refl, refl, refl))

pub seen_mixed : Seen positive_negative false (pos 4294967296) (negsuc 2147483647) × Seen positive_negative true (pos 4294967296) (negsuc 2147483648) × Seen negative_positive false (negsuc 4294967295) (pos 2147483648) × Seen negative_positive true (negsuc 4294967295) (pos 2147483649)
unfolding case_of
seen_mixed = ((refl, refl, refl, refl), (refl, refl, refl, refl), (refl, refl, refl, refl), (refl, refl, refl, refl))

pub seen_negative : Seen both_negative false (negsuc 0) (negsuc 9223372036854775806) × Seen both_negative false (negsuc 3037000498) (negsuc 3037000499) × Seen both_negative true (negsuc 4294967295) (negsuc 2147483647)
unfolding case_of
seen_negative = ((refl, refl, refl, refl), (refl, refl, refl, refl), (refl, refl, refl, refl))
