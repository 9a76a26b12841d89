-- Numbers on the command line: the digits in turn, a number that is greater stays so, and a word of more than 20 bytes is none. Assumes nothing.
use Rattle.std.proofs.Common.{Some, None}
use mathlib.Core.Path.{◌≡◌, refl, sym, ◌∙◌, ap}
use mathlib.Core.Bool.{Bool, true, false, cond}
use mathlib.Core.List.{List, [], ◌∷◌}
use mathlib.Core.Option.{none}
use Prim.Native.Nat.{ℕ, zero, suc, ◌+◌, ◌-◌, ◌*◌, ◌/◌, ◌≤◌, ◌<◌}
use native.Mathlib.Numerals.{add-one}
use native.Mathlib.Omega.{arith}
use native.Mathlib.Decide.{dec_le}
use borrow.Author.Tests.{eq-eqb, ne_eqb, le-leb, lt-leb}
use lib.ListN.{length, get_or, drop, drop_of_length-le}
use lib.Seq.{drop-cons}
use Rattle.print.specs.Written.{greatest}
use Rattle.sheet.specs.Bytes.{is_digit, digits_from, decimal, at_most}
use Rattle.scan.specs.Numbers.{Number, number_of}
use Rattle.wording.specs.Worded.{number_in}

-- ---- one digit more

abbrev Refuses : ℕ → List ℕ → Type 0
Refuses n s = at_most greatest (digits_from n s) ≡ none

over : (n : ℕ) (s : List ℕ) → greatest < n → Refuses n s
over n [] h = rw (lt-leb n greatest h)
over n (x ∷ s) h = go (is_digit x) (over (n * 10 + (x - 48)) s (omega arith))
  where
    go : (t : Bool) → Refuses (n * 10 + (x - 48)) s → at_most greatest (cond t (digits_from (n * 10 + (x - 48)) s) none) ≡ none
    go true r = r
    go false r = refl

module _ (n : ℕ) (s : List ℕ) (i : ℕ) (h : i < length s) where
  first : drop i s ≡ get_or s i 0 ∷ drop (i + 1) s
  first = rw (add-one, drop-cons s i 0)

  digit_on : 48 ≤ get_or s i 0 → get_or s i 0 ≤ 57 → digits_from n (drop i s) ≡ digits_from (n * 10 + (get_or s i 0 - 48)) (drop (i + 1) s)
  digit_on l g = rw first (simp (le-leb _ _ l, le-leb _ _ g))

  digit_low : get_or s i 0 < 48 → digits_from n (drop i s) ≡ none
  digit_low l = rw first (simp (lt-leb _ _ l))

  digit_high : 48 ≤ get_or s i 0 → 57 < get_or s i 0 → digits_from n (drop i s) ≡ none
  digit_high l g = rw first (simp (le-leb _ _ l, lt-leb _ _ g))

-- ---- the loop over digits: n is what the first i of them write

pub record Reading (s : List ℕ) (n i : ℕ) : Type 0 where
  pub near : i ≤ length s
  pub low : n ≤ 18446744073709551615
  pub left : at_most greatest (digits_from 0 s) ≡ at_most greatest (digits_from n (drop i s))

pub reading_start : (s : List ℕ) → Reading s 0 0
reading_start s = record { near = omega arith; low = omega arith; left = refl }

module _ (s : List ℕ) (n i : ℕ) (k : Reading s n i) where
  pub reading_low : i < length s → get_or s i 0 < 48 → number_of None ≡ at_most greatest (digits_from 0 s)
  reading_low h l = sym (k.left ∙ ap (at_most greatest) (digit_low n s i h l))

  pub reading_high : i < length s → 48 ≤ get_or s i 0 → 57 < get_or s i 0 → number_of None ≡ at_most greatest (digits_from 0 s)
  reading_high h l g = sym (k.left ∙ ap (at_most greatest) (digit_high n s i h l g))

  too_great : i < length s → 48 ≤ get_or s i 0 → get_or s i 0 ≤ 57 → greatest < n * 10 + (get_or s i 0 - 48) → number_of None ≡ at_most greatest (digits_from 0 s)
  too_great h l g o = sym (k.left ∙ ap (at_most greatest) (digit_on n s i h l g) ∙ over (n * 10 + (get_or s i 0 - 48)) (drop (i + 1) s) o)

  pub reading_full : i < length s → 48 ≤ get_or s i 0 → get_or s i 0 ≤ 57 → 18446744073709551615 / 10 < n → number_of None ≡ at_most greatest (digits_from 0 s)
  reading_full h l g o = too_great h l g (omega arith)

  pub reading_over : i < length s → 48 ≤ get_or s i 0 → get_or s i 0 ≤ 57 → n ≤ 18446744073709551615 / 10 → 18446744073709551615 - n * 10 < get_or s i 0 - 48
      → number_of None ≡ at_most greatest (digits_from 0 s)
  reading_over h l g m o = too_great h l g (omega arith)

  pub reading_on_law : i < length s → 48 ≤ get_or s i 0 → get_or s i 0 ≤ 57 → n ≤ 18446744073709551615 / 10 → get_or s i 0 - 48 ≤ 18446744073709551615 - n * 10 → Reading s (n * 10 + (get_or s i 0 - 48)) (i + 1)
  reading_on_law h l g m o = record { near = omega arith; low = omega arith; left = k.left ∙ ap (at_most greatest) (digit_on n s i h l g) }

  pub reading_done : length s ≤ i → number_of (Some n) ≡ at_most greatest (digits_from 0 s)
  reading_done h = sym (k.left ∙ ap (λ l. at_most greatest (digits_from n l)) (drop_of_length-le s h) ∙ rw (le-leb n greatest k.low))

-- ---- a decimal number, by its length and its first byte

module _ (s : List ℕ) where
  pub number_empty : length s ≡ 0 → number_of None ≡ number_in s
  unfolding number_in
  number_empty h = go s h
    where
      go : (l : List ℕ) → length l ≡ 0 → none ≡ at_most greatest (decimal l)
      go [] e = refl
      go (x ∷ l) e = absurd (omega arith)

  module _ (r : Number) (e : number_of r ≡ at_most greatest (digits_from 0 s)) where
    pub number_one : length s ≡ 1 → number_of r ≡ number_in s
    unfolding number_in
    number_one h = e ∙ ap (at_most greatest) (go s h)
      where
        go : (l : List ℕ) → length l ≡ 1 → digits_from 0 l ≡ decimal l
        go [] q = absurd (omega arith)
        go (x ∷ []) q = refl
        go (x ∷ y ∷ l) q = absurd (omega arith)

    pub number_more : (length s ≡ 0 → ⊥) → (length s ≡ 1 → ⊥) → (get_or s 0 0 ≡ 48 → ⊥) → number_of r ≡ number_in s
    unfolding number_in
    number_more a b z = e ∙ ap (at_most greatest) (go s a b z)
      where
        go : (l : List ℕ) → (length l ≡ 0 → ⊥) → (length l ≡ 1 → ⊥) → (get_or l 0 0 ≡ 48 → ⊥) → digits_from 0 l ≡ decimal l
        go [] a b z = absurd (a refl)
        go (x ∷ []) a b z = absurd (b refl)
        go (x ∷ y ∷ l) a b z = simp (ne_eqb _ _ z)

  pub number_zero : (length s ≡ 0 → ⊥) → (length s ≡ 1 → ⊥) → get_or s 0 0 ≡ 48 → number_of None ≡ number_in s
  unfolding number_in
  number_zero a b z = go s a b z
    where
      go : (l : List ℕ) → (length l ≡ 0 → ⊥) → (length l ≡ 1 → ⊥) → get_or l 0 0 ≡ 48 → none ≡ at_most greatest (decimal l)
      go [] a b z = absurd (a refl)
      go (x ∷ []) a b z = absurd (b refl)
      go (x ∷ y ∷ l) a b z = simp (eq-eqb _ _ z)

-- ---- A WORD OF MORE THAN 20 BYTES IS NO NUMBER OF 64 BITS

abbrev grown : ℕ → ℕ → ℕ
grown zero n = n
grown (suc k) n = grown k (n * 10)

grows : (k m n : ℕ) (s : List ℕ) → k ≤ length s → m ≤ n → greatest < grown k m → Refuses n s
grows zero m n s h l g = over n s (omega (arith, g, l))
grows (suc k) m n [] h l g = absurd (omega (arith, h))
grows (suc k) m n (x ∷ s) h l g = go (is_digit x) (grows k (m * 10) (n * 10 + (x - 48)) s (omega (arith, h)) (omega (arith, l)) g)
  where
    go : (t : Bool) → Refuses (n * 10 + (x - 48)) s → at_most greatest (cond t (digits_from (n * 10 + (x - 48)) s) none) ≡ none
    go true r = r
    go false r = refl

pub long_word : (w : List ℕ) → 20 < length w → number_in w ≡ none
unfolding number_in
long_word [] h = absurd (omega arith)
long_word (x ∷ []) h = absurd (omega arith)
long_word (x ∷ y ∷ w) h = zero_or (dec_le x 48)
  where
    on : (t : Bool) → Refuses (0 * 10 + (x - 48)) (y ∷ w) → at_most greatest (cond t (digits_from (0 * 10 + (x - 48)) (y ∷ w)) none) ≡ none
    on true r = r
    on false r = refl

    zero_or : Dec (x ≤ 48) → at_most greatest (decimal (x ∷ y ∷ w)) ≡ none
    zero_or (no d) = rw (ne_eqb x 48 (λ e. absurd (omega (arith, d, e)))) (on (is_digit x) (grows 20 1 (0 * 10 + (x - 48)) (y ∷ w) (omega (arith, h)) (omega (arith, d)) (omega arith)))
    zero_or (yes d) = below (dec_le 48 x)
      where
        below : Dec (48 ≤ x) → at_most greatest (decimal (x ∷ y ∷ w)) ≡ none
        below (yes u) = rw (eq-eqb x 48 (omega (arith, d, u)))
        below (no u) = rw (ne_eqb x 48 (λ e. absurd (omega (arith, u, e)))) (simp (lt-leb 48 x (omega (arith, u))))
