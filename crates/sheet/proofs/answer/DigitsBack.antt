-- A number that is printed reads back as it was: decimal numbers, indices and longs. No byte of it is a separator.
use mathlib.Core.Path.{◌≡◌, refl, ◌∙◌, ap}
use mathlib.Core.Bool.{Bool, true, false, cond, not, ◌&&◌}
use mathlib.Core.Option.{none, some}
use mathlib.Core.List.{List, [], ◌∷◌, ◌++◌}
use Prim.Native.Nat.{ℕ, zero, suc, ◌≤◌, ◌<◌, ◌+◌, ◌-◌, ◌*◌, ◌/◌, ◌%◌}
use native.Mathlib.Omega.{arith}
use native.Mathlib.Decide.{dec_lt}
use borrow.Author.Tests.{leb-true, le-leb, lt-ltb, le-ltb, ne_eqb}
use lib.Dec.{leb, eqb}
use lib.IntN.{ℤ, pos, negsuc}
use Rattle.cedar.proofs.Tools.{no_some}
use Rattle.cedar.specs.Evaluate.{in_range}
use Rattle.sheet.specs.Bytes.{same, is_digit, digits_from, decimal, at_most, index, half, upward, downward, long, digits_by, digits, signed}
use Rattle.sheet.proofs.reading.Lines.{and_both}
use Rattle.sheet.proofs.content.ValueRows.{word_of, some_is}

-- ---- bytes that are neither a comma nor outside 32 to 126, so that items of them can be taken apart again

abbrev pub plain_byte : ℕ → Bool
plain_byte x = (leb 32 x && leb x 126) && not (eqb x 44)

abbrev pub plain_bytes : List ℕ → Bool
plain_bytes [] = true
plain_bytes (x ∷ l) = plain_byte x && plain_bytes l

pub plain_append : (k l : List ℕ) → plain_bytes k ≡ true → plain_bytes l ≡ true → plain_bytes (k ++ l) ≡ true
plain_append [] l a b = b
plain_append (x ∷ k) l a b = and_both (plain_byte x) (plain_bytes k) a (λ p q. rw p (plain_append k l q b))

digit_plain : (d : ℕ) → d ≤ 9 → plain_byte (48 + d) ≡ true
digit_plain d h = simp (le-leb 32 (48 + d) (omega arith), le-leb (48 + d) 126 (omega arith), ne_eqb (48 + d) 44 (λ z. omega (arith, z)))

is_digit_law : (d : ℕ) → d ≤ 9 → is_digit (48 + d) ≡ true
is_digit_law d h = simp (le-leb 48 (48 + d) (omega arith), le-leb (48 + d) 57 (omega arith))

-- 10 to the power of the digits that there is room for
abbrev pub power : ℕ → ℕ
power zero = 10
power (suc k) = 10 * power k

-- ---- the digits of a number

pub digits_plain : (k n : ℕ) → n < power k → plain_bytes (digits_by k n) ≡ true
digits_plain zero n h = rw (digit_plain n (omega arith))
digits_plain (suc k) n h = go (dec_lt n 10) (λ d. digits_plain k (n / 10) (omega arith))
  where
    go : Dec (n < 10) → (10 ≤ n → plain_bytes (digits_by k (n / 10)) ≡ true) → plain_bytes (digits_by (suc k) n) ≡ true
    go (yes d) f = rw (lt-ltb n 10 d, digit_plain n (omega arith))
    go (no d) f = rw (le-ltb n 10 (omega arith)) (plain_append (digits_by k (n / 10)) ((48 + n % 10) ∷ []) (f (omega arith)) (rw (digit_plain (n % 10) (omega arith))))

digits_then : (xs ys : List ℕ) (a v : ℕ) → digits_from a xs ≡ some v → digits_from a (xs ++ ys) ≡ digits_from v ys
digits_then [] ys a v e = ap (λ k. digits_from k ys) (some_is e)
digits_then (x ∷ xs) ys a v e = go (is_digit x) (digits_then xs ys (a * 10 + (x - 48)) v) e
  where
    go : (t : Bool) → (digits_from (a * 10 + (x - 48)) xs ≡ some v → digits_from (a * 10 + (x - 48)) (xs ++ ys) ≡ digits_from v ys) → cond t (digits_from (a * 10 + (x - 48)) xs) none ≡ some v → cond t (digits_from (a * 10 + (x - 48)) (xs ++ ys)) none ≡ digits_from v ys
    go true f q = f q
    go false f q = no_some q

last : (a d : ℕ) → d ≤ 9 → digits_from a ((48 + d) ∷ []) ≡ some (a * 10 + d)
last a d h = rw (is_digit_law d h) (ap some (omega arith))

from_zero : (k n : ℕ) → n < power k → digits_from 0 (digits_by k n) ≡ some n
from_zero zero n h = last 0 n (omega arith) ∙ ap some (omega arith)
from_zero (suc k) n h = go (dec_lt n 10) (λ d. from_zero k (n / 10) (omega arith))
  where
    go : Dec (n < 10) → (10 ≤ n → digits_from 0 (digits_by k (n / 10)) ≡ some (n / 10)) → digits_from 0 (digits_by (suc k) n) ≡ some n
    go (yes d) f = rw (lt-ltb n 10 d) (last 0 n (omega arith) ∙ ap some (omega arith))
    go (no d) f = rw (le-ltb n 10 (omega arith)) (digits_then (digits_by k (n / 10)) ((48 + n % 10) ∷ []) 0 (n / 10) (f (omega arith)) ∙ last (n / 10) (n % 10) (omega arith) ∙ ap some (omega arith))

-- one digit, or a first digit that is no zero and others
data Written : List ℕ → Type 0 where
  single : {x : ℕ} → Written (x ∷ [])
  several : {x y : ℕ} {l : List ℕ} → (x ≡ 48 → ⊥) → 48 ≤ x → Written (x ∷ y ∷ l)

-- a first digit between 1 and 9
data Front : List ℕ → Type 0 where
  front : {x : ℕ} {l : List ℕ} → (x ≡ 48 → ⊥) → 48 ≤ x → Front (x ∷ l)

more_digits : {l : List ℕ} (z : ℕ) → Front l → Written (l ++ (z ∷ []))
more_digits z (front {l = []} h g) = several h g
more_digits z (front {l = y ∷ l} h g) = several h g

front_more : {l : List ℕ} (z : ℕ) → Front l → Front (l ++ (z ∷ []))
front_more z (front h g) = front h g

front_of : (k n : ℕ) → 0 < n → n < power k → Front (digits_by k n)
front_of zero n p h = front {x = 48 + n} (λ z. omega (arith, z)) (omega arith)
front_of (suc k) n p h = go (dec_lt n 10) (λ d. front_of k (n / 10) (omega arith) (omega arith))
  where
    go : Dec (n < 10) → (10 ≤ n → Front (digits_by k (n / 10))) → Front (digits_by (suc k) n)
    go (yes d) f = rw (lt-ltb n 10 d) (front {x = 48 + n} (λ z. omega (arith, z)) (omega arith))
    go (no d) f = rw (le-ltb n 10 (omega arith)) (front_more (48 + n % 10) (f (omega arith)))

written_of : (k n : ℕ) → n < power k → Written (digits_by k n)
written_of zero n h = single
written_of (suc k) n h = go (dec_lt n 10)
  where
    go : Dec (n < 10) → Written (digits_by (suc k) n)
    go (yes d) = rw (lt-ltb n 10 d) single
    go (no d) = rw (le-ltb n 10 (omega arith)) (more_digits (48 + n % 10) (front_of k (n / 10) (omega arith) (omega arith)))

decimal_is : {l : List ℕ} → Written l → decimal l ≡ digits_from 0 l
decimal_is single = refl
decimal_is (several {x = x} h g) = rw (ne_eqb x 48 h)

-- A PRINTED NUMBER READS BACK
pub decimal_back : (n : ℕ) → n < 100000000000000000000 → decimal (digits n) ≡ some n
decimal_back n h = decimal_is (written_of 19 n h) ∙ from_zero 19 n h

pub index_back : (n : ℕ) → n ≤ 9999 → index (digits n) ≡ some n
index_back n h = ap (at_most 9999) (decimal_back n (omega arith)) ∙ rw (le-leb n 9999 h)

pub number_plain : (n : ℕ) → n < 100000000000000000000 → plain_bytes (digits n) ≡ true
number_plain n h = digits_plain 19 n h

-- it is no single byte below the digits
digit_first : {l : List ℕ} (b : ℕ) → b < 48 → Front l → same l (b ∷ []) ≡ false
digit_first b h (front {x = x} f g) = rw (ne_eqb x b (λ z. omega (arith, z)))

zero_first : (b : ℕ) → b < 48 → same (48 ∷ []) (b ∷ []) ≡ false
zero_first b h = rw (ne_eqb 48 b (λ z. omega (arith, z)))

pub not_mark : (n b : ℕ) → n < 100000000000000000000 → b < 48 → same (digits n) (b ∷ []) ≡ false
not_mark zero b h lt = zero_first b lt
not_mark (suc n) b h lt = digit_first b lt (front_of 19 (suc n) (omega arith) h)

-- ---- longs, of 64 bits

abbrev pub IsLong : ℤ → Type 0
IsLong (pos n) = n < half
IsLong (negsuc n) = n < half

pub in_range_law : (z : ℤ) → in_range z ≡ true → IsLong z
in_range_law (pos n) e = let h = leb-true n 9223372036854775807 e in omega (arith, h)
in_range_law (negsuc n) e = and_both (leb n 9223372036854775807) true e (λ p q. let h = leb-true n 9223372036854775807 p in omega (arith, h))

up_back : (l : List ℕ) → Front l → long l ≡ upward (decimal l)
up_back l (front {x = x} f g) = rw (ne_eqb x 45 (λ z. omega (arith, z)))

pub long_back : (z : ℤ) → IsLong z → long (signed z) ≡ some (word_of z)
long_back (pos zero) h = refl
long_back (pos (suc n)) h = up_back (digits (suc n)) (front_of 19 (suc n) (omega arith) (omega arith)) ∙ ap upward (decimal_back (suc n) (omega arith)) ∙ rw (lt-ltb (suc n) half h)
long_back (negsuc n) h = ap downward (decimal_back (suc n) (omega arith)) ∙ simp (le-leb 1 (suc n) (omega arith), le-leb (suc n) half (omega arith)) (ap some (omega arith))

pub signed_plain : (z : ℤ) → IsLong z → plain_bytes (signed z) ≡ true
signed_plain (pos n) h = number_plain n (omega arith)
signed_plain (negsuc n) h = number_plain (suc n) (omega arith)
