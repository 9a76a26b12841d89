-- Runs of bytes written one after the other, and the digits of a number. Assumes nothing.
use Prim.Native.Nat.{ℕ, zero, suc, ◌+◌, ◌-◌, ◌*◌, ◌/◌, ◌%◌, ◌^◌, ◌≤◌, ◌<◌, min}
use mathlib.Core.Path.{◌≡◌, refl, sym, ◌∙◌, ap}
use mathlib.Core.List.{List, [], ◌∷◌, ◌++◌}
use mathlib.Core.Bool.{Bool, true, false, cond}
use native.Mathlib.Nat.{pow-suc, div-lt_iff_lt-mul}
use native.Mathlib.Numerals.{add-one}
use native.Mathlib.Omega.{arith}
use native.Mathlib.Decide.{dec_le}
use borrow.Author.Tests.{lt-ltb, le-ltb}
use lib.Dec.{ltb}
use lib.IntN.{pos, neg_ℤ}
use lib.ListN.{length, get_or, take, drop, set, length-append}
use lib.Seq.{sets, sets-eq, set_out, take-suc, length-sets}
use Rattle.words.proofs.Stores.{sets_append, sets_out}
use Rattle.sheet.specs.Call.{over}
use Rattle.sheet.specs.Bytes.{half, long_at, digits_by, digits, signed}
use Rattle.long.proofs.Longs.{long_negative, long_positive}
use Rattle.print.specs.Written.{greatest, Written}

-- ---- runs of bytes

-- nothing written
pub written_none : (was : List ℕ) (at : ℕ) → at ≤ 18446744073709551615 → length was ≤ 18446744073709551615 → Written was at [] was at
written_none was at h l = record { held = refl; place = omega arith; countable = l }

-- one run after the other
pub written_append : {a b c xs ys : List ℕ} {at mid next : ℕ} → Written a at xs b mid → Written b mid ys c next → Written a at (xs ++ ys) c next
written_append {a} {b} {c} {xs} {ys} {at} {mid} {next} p q =
    let n : length (xs ++ ys) ≡ length xs + length ys = length-append xs ys in
    let l : length (sets a at xs) ≡ length a = length-sets a at xs in
    record {
      held = q.held ∙ ap (λ (x : List ℕ). sets x mid ys) p.held ∙ go (dec_le (at + length xs) greatest) ∙ sym (sets_append xs ys a at);
      place = omega (arith, p.place, q.place);
      countable = p.countable;
    }
  where
    go : Dec (at + length xs ≤ greatest) → sets (sets a at xs) mid ys ≡ sets (sets a at xs) (at + length xs) ys
    go (yes h) = let e : mid ≡ at + length xs = omega (arith, p.place) in rw e
    go (no h) =
        let l : length (sets a at xs) ≡ length a = length-sets a at xs in
        sets_out ys (sets a at xs) mid (omega (arith, p.place, p.countable))
        ∙ sym (sets_out ys (sets a at xs) (at + length xs) (omega (arith, p.countable)))

-- the same bytes by another name
pub written_as : {a b xs ys : List ℕ} {at next : ℕ} → Written a at xs b next → xs ≡ ys → Written a at ys b next
written_as {a} {b} {xs} {ys} {at} {next} p e =
    record {
      held = p.held ∙ ap (sets a at) e;
      place = p.place ∙ ap (λ (l : List ℕ). min (at + length l) greatest) e;
      countable = p.countable;
    }

-- the buffer keeps its length
pub written_length : {a b xs : List ℕ} {at next : ℕ} → Written a at xs b next → length b ≡ length a
written_length {a} {b} {xs} {at} {next} p = ap length p.held ∙ length-sets a at xs

-- one byte, by the tests of the code
module _ (was : List ℕ) (at b : ℕ) (l : length was ≤ 18446744073709551615) where
  pub byte_in : at < length was → Written was at (b ∷ []) (set was at b) (at + 1)
  byte_in h = record { held = refl; place = omega arith; countable = l }

  pub byte_past : length was ≤ at → at < 18446744073709551615 → Written was at (b ∷ []) was (at + 1)
  byte_past h g = record { held = sym (set_out was at b h); place = omega arith; countable = l }

  pub byte_full : length was ≤ at → 18446744073709551615 ≤ at → at ≤ 18446744073709551615 → Written was at (b ∷ []) was at
  byte_full h g k = record { held = sym (set_out was at b h); place = omega arith; countable = l }

-- a run of bytes, one more of which is written
pub written_next : {was is out : List ℕ} {at k next : ℕ} → (text : List ℕ) (i : ℕ) → Written was at (take i text) is k → i < length text → Written is k (get_or text i 0 ∷ []) out next
    → Written was at (take (i + 1) text) out next
written_next text i v h w = written_as (written_append v w) (rw (add-one i) (sym (take-suc text i 0 h)))

-- ---- digits

pub digits_by_one : (k n : ℕ) → n < 10 → digits_by k n ≡ (48 + n) ∷ []
digits_by_one zero n h = refl
digits_by_one (suc k) n h = rw (lt-ltb n 10 h)

digits_by_more : (k n : ℕ) → 10 ≤ n → digits_by (suc k) n ≡ digits_by k (n / 10) ++ ((48 + n % 10) ∷ [])
digits_by_more k n h = rw (le-ltb n 10 h)

-- a number below 10^(k + 1) has at most k + 1 digits
one_more : (k n : ℕ) → n < 10 ^ suc k → digits_by k n ≡ digits_by (suc k) n
one_more zero n h = let l : n < 10 = h in sym (digits_by_one 1 n l)
one_more (suc k) n h =
    ap (λ (l : List ℕ). cond (ltb n 10) ((48 + n) ∷ []) (l ++ ((48 + n % 10) ∷ [])))
    (one_more k (n / 10) ((div-lt_iff_lt-mul {k = 10} {x = n} {y = 10 ^ suc k} (omega arith)).1 less))
  where
    less : n < 10 ^ suc k * 10
    less = rw (pow-suc 10 (suc k)) at h

enough : (n : ℕ) → n < 18446744073709551616 → digits_by 18 (n / 10) ≡ digits_by 19 (n / 10)
enough n h = one_more 18 (n / 10) (omega arith)

pub digits_one : (n : ℕ) → n < 10 → (48 + n) ∷ [] ≡ digits n
digits_one n h = sym (digits_by_one 19 n h)

pub digits_more : (n : ℕ) → 10 ≤ n → n < 18446744073709551616 → digits (n / 10) ++ ((48 + n % 10) ∷ []) ≡ digits n
digits_more n h l = sym (digits_by_more 18 n h ∙ ap (λ (x : List ℕ). x ++ ((48 + n % 10) ∷ [])) (enough n l))

-- a number has a digit, and at most 20
pub digits_few : (n : ℕ) → length (digits n) ≤ 20
digits_few n = by_fuel 19 n
  where
    by_fuel : (k n : ℕ) → length (digits_by k n) ≤ suc k
    by_fuel zero n = omega arith
    by_fuel (suc k) n = go (ltb n 10) (by_fuel k (n / 10))
      where
        go : (b : Bool) → length (digits_by k (n / 10)) ≤ suc k → length (cond b ((48 + n) ∷ []) (digits_by k (n / 10) ++ ((48 + n % 10) ∷ []))) ≤ suc (suc k)
        go true h = omega arith
        go false h = omega (arith, length-append (digits_by k (n / 10)) ((48 + n % 10) ∷ []))

-- ---- a long's digits, from its word

signed_neg : (m : ℕ) → (m ≡ 0 → ⊥) → 45 ∷ digits m ≡ signed (neg_ℤ (pos m))
signed_neg zero h = absurd (h refl)
signed_neg (suc m) h = refl

pub signed_negative : (w : ℕ) → w < 9223372036854775808 → 45 ∷ digits (9223372036854775808 - w) ≡ signed (long_at w)
signed_negative w h = signed_neg (half - w) (omega arith) ∙ ap signed (sym (long_negative w h))

pub signed_positive : (w : ℕ) → 9223372036854775808 ≤ w → digits (w - 9223372036854775808) ≡ signed (long_at w)
signed_positive w h = ap signed (sym (long_positive w h))

-- ---- the answers of the writers of numbers

pub number_one : (was is : List ℕ) (at next n : ℕ) → n < 10 → Written was at ((48 + n) ∷ []) is next → Written was at (digits n) is next
number_one was is at next n h w = written_as w (digits_one n h)

pub number_more : (was mid is : List ℕ) (at m next n : ℕ) → n < 18446744073709551616 → 10 ≤ n → Written was at (digits (n / 10)) mid m → Written mid m ((48 + n % 10) ∷ []) is next
    → Written was at (digits n) is next
number_more was mid is at m next n l h v w = written_as (written_append v w) (digits_more n h l)

pub number_two : (was mid is : List ℕ) (at m next n : ℕ) → 10 ≤ n → n < 100 → Written was at ((48 + n / 10) ∷ []) mid m → Written mid m ((48 + n % 10) ∷ []) is next
    → Written was at (digits n) is next
number_two was mid is at m next n l h v w = number_more was mid is at m next n (omega arith) l (number_one was mid at m (n / 10) (omega arith) v) w

pub long_less : (was mid is : List ℕ) (at m next w : ℕ) → w < 9223372036854775808 → Written was at (45 ∷ []) mid m → Written mid m (digits (9223372036854775808 - w)) is next
    → Written was at (signed (long_at w)) is next
long_less was mid is at m next w h u v = written_as (written_append u v) (signed_negative w h)

pub long_more : (was is : List ℕ) (at next w : ℕ) → 9223372036854775808 ≤ w → Written was at (digits (w - 9223372036854775808)) is next → Written was at (signed (long_at w)) is next
long_more was is at next w h v = written_as v (signed_positive w h)

-- ---- a whole answer

-- from the start of a buffer that has room for all of it
pub written_over : (was bytes is : List ℕ) (next : ℕ) → Written was 0 bytes is next → length bytes ≤ length was → (is ≡ over bytes was) × (next ≡ length bytes)
written_over was bytes is next w h =
    let z : 0 + length bytes ≡ length bytes = omega arith in
    let f : 0 + length bytes ≤ length was = omega arith in
    (w.held ∙ sets-eq bytes was 0 f ∙ ap (λ (k : ℕ). bytes ++ drop k was) z, omega (arith, w.place, w.countable))

-- into a part without room: only the length is counted
pub written_counted : (was bytes is : List ℕ) (next : ℕ) → Written was 0 bytes is next → length was ≡ 0 → length bytes ≤ 18446744073709551615 → (is ≡ was) × (next ≡ length bytes)
written_counted was bytes is next w h l = (w.held ∙ sets_out bytes was 0 (omega arith), omega (arith, w.place))
