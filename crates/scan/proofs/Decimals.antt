-- One step of a decimal number, at what is left of its digits from i on; that a number only grows as digits follow; indices and longs by their size. Assumes nothing.
use Rattle.std.proofs.Common.{◌≡◌, ℕ, ◌+◌, ◌-◌, ◌*◌, ◌<◌, ◌≤◌, Bool, true, false, cond, ◌&&◌, leb, List, [], ◌∷◌, length, get_or, take, drop, sym, refl, ap, ◌∙◌, add-one, arith, drop_of_length-le, drop-cons, le-ltb, lt-ltb, eq-eqb, ne_eqb, le-leb, leb-true, Some, None, SomeIff}
use mathlib.Core.Option.{Option, none, some}
use native.Mathlib.Decide.{dec_le}
use borrow.Author.Tests.{lt-leb}
use Rattle.sheet.specs.Bytes.{is_digit, digits_from, decimal, index, at_most, half, long, upward, downward}
use Rattle.scan.specs.Numbers.{number_of, Number}
use Rattle.scan.proofs.Scans.{rest_is}

uncons : (s : List ℕ) (i : ℕ) → i < length s → drop i s ≡ get_or s i 0 ∷ drop (i + 1) s
uncons s i h = rw (add-one, drop-cons s i 0)

module _ (acc : ℕ) (s : List ℕ) (i : ℕ) where
  digit_on : i < length s → 48 ≤ get_or s i 0 → get_or s i 0 ≤ 57 → digits_from acc (drop i s) ≡ digits_from (acc * 10 + (get_or s i 0 - 48)) (drop (i + 1) s)
  digit_on h l g = rw (uncons s i h) (simp (le-leb _ _ l, le-leb _ _ g))

  digit_low : i < length s → get_or s i 0 < 48 → digits_from acc (drop i s) ≡ none
  digit_low h l = rw (uncons s i h) (simp (lt-leb _ _ l))

  digit_high : i < length s → 48 ≤ get_or s i 0 → 57 < get_or s i 0 → digits_from acc (drop i s) ≡ none
  digit_high h l g = rw (uncons s i h) (simp (le-leb _ _ l, lt-leb _ _ g))

  digit_end : length s ≤ i → digits_from acc (drop i s) ≡ some acc
  digit_end h = rw (drop_of_length-le s h)

-- what is over the cap stays so
over : (cap acc : ℕ) (s : List ℕ) → cap < acc → at_most cap (digits_from acc s) ≡ none
over cap acc [] h = simp (lt-leb _ _ h)
over cap acc (x ∷ xs) h = go (is_digit x) (over cap (acc * 10 + (x - 48)) xs (omega arith))
  where
    go : (t : Bool) → at_most cap (digits_from (acc * 10 + (x - 48)) xs) ≡ none → at_most cap (cond t (digits_from (acc * 10 + (x - 48)) xs) none) ≡ none
    go true r = r
    go false r = refl

-- ---- the turns of the loop over digits

-- where a reader of digits stands: n from the first i bytes
pub record Reading (s : List ℕ) (n i : ℕ) : Type 0 where
  pub near : i ≤ length s
  pub low : n ≤ 9223372036854775809
  pub left : at_most half (digits_from 0 s) ≡ at_most half (digits_from n (drop i s))

pub reading_start : (s : List ℕ) → Reading s 0 0
reading_start s = record { near = omega arith; low = omega arith; left = refl }

module _ (s : List ℕ) (n i : ℕ) (k : Reading s n i) where
  pub reading_low : i < length s → get_or s i 0 < 48 → number_of None ≡ at_most half (digits_from 0 s)
  reading_low h l = sym (k.left ∙ ap (at_most half) (digit_low n s i h l))

  pub reading_high : i < length s → 48 ≤ get_or s i 0 → 57 < get_or s i 0 → number_of None ≡ at_most half (digits_from 0 s)
  reading_high h l g = sym (k.left ∙ ap (at_most half) (digit_high n s i h l g))

  pub reading_over : i < length s → 48 ≤ get_or s i 0 → get_or s i 0 ≤ 57 → 922337203685477580 < n → number_of None ≡ at_most half (digits_from 0 s)
  reading_over h l g o =
      sym (k.left ∙ ap (at_most half) (digit_on n s i h l g) ∙ over half (n * 10 + (get_or s i 0 - 48)) (drop (i + 1) s) (omega arith))

  pub reading_on_law : i < length s → 48 ≤ get_or s i 0 → get_or s i 0 ≤ 57 → n ≤ 922337203685477580 → Reading s (n * 10 + (get_or s i 0 - 48)) (i + 1)
  reading_on_law h l g o =
      record { near = omega arith; low = omega arith; left = k.left ∙ ap (at_most half) (digit_on n s i h l g) }

  at_end : length s ≤ i → at_most half (digits_from 0 s) ≡ at_most half (some n)
  at_end h = k.left ∙ ap (at_most half) (digit_end n s i h)

  pub reading_done : length s ≤ i → n ≤ 9223372036854775808 → number_of (Some n) ≡ at_most half (digits_from 0 s)
  reading_done h l = sym (at_end h ∙ rw (le-leb n half l))

  pub reading_most : length s ≤ i → 9223372036854775808 < n → number_of None ≡ at_most half (digits_from 0 s)
  reading_most h l = sym (at_end h ∙ rw (lt-leb n half l))

-- ---- what is at most a cap

pub at_most_some : (cap : ℕ) (o : Option ℕ) (n : ℕ) → some n ≡ at_most cap o → (o ≡ some n) × (n ≤ cap)
at_most_some cap none n e = let z : ◌≡◌ {A = ℕ} 0 1 = cc in absurd (omega arith)
at_most_some cap (some m) n e = go (leb m cap) refl e
  where
    go : (t : Bool) → leb m cap ≡ t → some n ≡ cond t (some m) none → (some m ≡ some n) × (n ≤ cap)
    go true p q = let z : n ≡ m = cc in (sym q, omega (arith, leb-true m cap p))
    go false p q = let z : ◌≡◌ {A = ℕ} 0 1 = cc in absurd (omega arith)

pub at_most_none : (cap less : ℕ) (o : Option ℕ) → less ≤ cap → none ≡ at_most cap o → none ≡ at_most less o
at_most_none cap less none h e = refl
at_most_none cap less (some m) h e = go (dec_le m cap)
  where
    go : Dec (m ≤ cap) → none ≡ at_most less (some m)
    go (yes d) = let f : none ≡ some m = rw (le-leb m cap d) at e in let z : ◌≡◌ {A = ℕ} 0 1 = cc in absurd (omega arith)
    go (no d) = simp (lt-leb m less (omega arith))

-- an index has at most four digits
pub index_small : (s : List ℕ) (n : ℕ) → some n ≡ index s → n ≤ 9999
index_small s n e = (at_most_some 9999 (decimal s) n e).1

-- ---- a long by its size

upward_most : (o : Option ℕ) → upward (at_most half o) ≡ upward o
upward_most none = refl
upward_most (some n) = go (dec_le n half)
  where
    go : Dec (n ≤ half) → upward (at_most half (some n)) ≡ upward (some n)
    go (yes h) = rw (le-leb n half h)
    go (no h) = rw (lt-leb n half (omega arith), le-ltb n half (omega arith))

downward_most : (o : Option ℕ) → downward (at_most half o) ≡ downward o
downward_most none = refl
downward_most (some n) = go (dec_le n half)
  where
    by_false : (t : Bool) → none ≡ cond (t && false) (some (half - n)) none
    by_false true = refl
    by_false false = refl

    go : Dec (n ≤ half) → downward (at_most half (some n)) ≡ downward (some n)
    go (yes h) = rw (le-leb n half h) (rw (le-leb n half h) refl)
    go (no h) = rw (lt-leb n half (omega arith)) (by_false (leb 1 n))

-- a long without a sign is its size and 2^63, where this is a number of 64 bits
up_law : (n : ℕ) (r : Number) → SomeIff r (half + n < 18446744073709551616) (half + n) → number_of r ≡ upward (some n)
up_law n None h = rw (le-ltb n half (omega (arith, h))) refl
up_law n (Some m) h = rw (lt-ltb n half (omega (arith, h.0))) (ap some h.1)

-- the form of a decimal number, by its length and its first byte
decimal_empty : (s : List ℕ) → length s ≡ 0 → decimal s ≡ none
decimal_empty [] h = refl
decimal_empty (x ∷ xs) h = absurd (omega arith)

decimal_zero : (s : List ℕ) → 1 < length s → get_or s 0 0 ≡ 48 → decimal s ≡ none
decimal_zero [] h e = absurd (omega arith)
decimal_zero (x ∷ []) h e = absurd (omega arith)
decimal_zero (x ∷ y ∷ ys) h e = simp (eq-eqb _ _ e)

decimal_one : (s : List ℕ) → (length s ≡ 0 → ⊥) → length s ≤ 1 → decimal s ≡ digits_from 0 s
decimal_one [] h l = absurd (h refl)
decimal_one (x ∷ []) h l = refl
decimal_one (x ∷ y ∷ ys) h l = absurd (omega arith)

decimal_more : (s : List ℕ) → 1 < length s → (get_or s 0 0 ≡ 48 → ⊥) → decimal s ≡ digits_from 0 s
decimal_more [] h e = absurd (omega arith)
decimal_more (x ∷ []) h e = absurd (omega arith)
decimal_more (x ∷ y ∷ ys) h e = simp (ne_eqb _ _ e)

long_empty : (s : List ℕ) → length s ≡ 0 → long s ≡ none
long_empty [] h = refl
long_empty (x ∷ xs) h = absurd (omega arith)

long_minus : (s : List ℕ) → (length s ≡ 0 → ⊥) → get_or s 0 0 ≡ 45 → long s ≡ downward (decimal (drop 1 s))
long_minus [] h e = absurd (h refl)
long_minus (x ∷ xs) h e = rw (eq-eqb x 45 e)

long_plus : (s : List ℕ) → (length s ≡ 0 → ⊥) → (get_or s 0 0 ≡ 45 → ⊥) → long s ≡ upward (decimal s)
long_plus [] h e = absurd (h refl)
long_plus (x ∷ xs) h e = rw (ne_eqb x 45 e)

module _ (s : List ℕ) (a : length s ≡ 0 → ⊥) where
  long_minus_law : get_or s 0 0 ≡ 45 → (o : Option ℕ) → o ≡ at_most half (decimal (take (length s - 1) (drop 1 s))) → downward o ≡ long s
  long_minus_law b o e = ap downward (e ∙ ap (λ (l : List ℕ). at_most half (decimal l)) (rest_is s 1)) ∙ downward_most (decimal (drop 1 s)) ∙ sym (long_minus s a b)

  long_plus_law : (get_or s 0 0 ≡ 45 → ⊥) → (o : Option ℕ) → o ≡ at_most half (decimal s) → upward o ≡ long s
  long_plus_law b o e = ap upward e ∙ upward_most (decimal s) ∙ sym (long_plus s a b)

-- ---- the answers of the readers, by the tests that lead to them

module _ (s : List ℕ) where
  pub size_empty : length s ≡ 0 → number_of None ≡ at_most half (decimal s)
  size_empty h = sym (ap (at_most half) (decimal_empty s h))

  pub size_one : (r : Number) → length s ≡ 1 → number_of r ≡ at_most half (digits_from 0 s) → number_of r ≡ at_most half (decimal s)
  size_one r h e = e ∙ ap (at_most half) (sym (decimal_one s (λ z. absurd (omega arith)) (omega arith)))

  pub size_zero : (length s ≡ 0 → ⊥) → (length s ≡ 1 → ⊥) → get_or s 0 0 ≡ 48 → number_of None ≡ at_most half (decimal s)
  size_zero a b h = sym (ap (at_most half) (decimal_zero s (omega arith) h))

  pub size_more : (r : Number) → (length s ≡ 0 → ⊥) → (length s ≡ 1 → ⊥) → (get_or s 0 0 ≡ 48 → ⊥) → number_of r ≡ at_most half (digits_from 0 s) → number_of r ≡ at_most half (decimal s)
  size_more r a b h e = e ∙ ap (at_most half) (sym (decimal_more s (omega arith) h))

  pub index_in : (n : ℕ) → some n ≡ at_most half (decimal s) → n ≤ 9999 → number_of (Some n) ≡ index s
  index_in n e h = rw (at_most_some half (decimal s) n e).0 (rw (le-leb n 9999 h) refl)

  pub index_over : (n : ℕ) → some n ≡ at_most half (decimal s) → 9999 < n → number_of None ≡ index s
  index_over n e h = rw (at_most_some half (decimal s) n e).0 (rw (lt-leb n 9999 h) refl)

  pub index_refused : none ≡ at_most half (decimal s) → number_of None ≡ index s
  index_refused e = at_most_none half 9999 (decimal s) (omega arith) e

  pub long_none : length s ≡ 0 → number_of None ≡ long s
  long_none h = sym (long_empty s h)

  pub long_down : (n : ℕ) (r : Number) → (length s ≡ 0 → ⊥) → get_or s 0 0 ≡ 45 → some n ≡ at_most half (decimal (take (length s - 1) (drop 1 s))) → number_of r ≡ downward (some n) → number_of r ≡ long s
  long_down n r a b e d = d ∙ long_minus_law s a b (some n) e

  pub long_down_none : (length s ≡ 0 → ⊥) → get_or s 0 0 ≡ 45 → none ≡ at_most half (decimal (take (length s - 1) (drop 1 s))) → number_of None ≡ long s
  long_down_none a b e = long_minus_law s a b none e

  pub long_up : (n : ℕ) (r : Number) → (length s ≡ 0 → ⊥) → (get_or s 0 0 ≡ 45 → ⊥) → some n ≡ at_most half (decimal s) → SomeIff r (half + n < 18446744073709551616) (half + n) → number_of r ≡ long s
  long_up n r a b e d = up_law n r d ∙ long_plus_law s a b (some n) e

  pub long_up_none : (length s ≡ 0 → ⊥) → (get_or s 0 0 ≡ 45 → ⊥) → none ≡ at_most half (decimal s) → number_of None ≡ long s
  long_up_none a b e = long_plus_law s a b none e

-- ---- a long after `-`, by its size

module _ (n : ℕ) where
  pub down_zero : n ≡ 0 → number_of None ≡ downward (some n)
  down_zero h = rw h refl

  pub down_more : (n ≡ 0 → ⊥) → (r : Number) → SomeIff r (n ≤ half) (half - n) → number_of r ≡ downward (some n)
  down_more z None h = rw (le-leb 1 n (omega arith), lt-leb n half (omega (arith, h))) refl
  down_more z (Some m) h = rw (le-leb 1 n (omega arith), le-leb n half h.0) (ap some h.1)
