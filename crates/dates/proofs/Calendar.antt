-- Leap years, months, dates: what the tests of the code say. Assumes nothing.
use Rattle.std.proofs.Common.{Some, None}
use mathlib.Core.Path.{◌≡◌, refl, sym, ◌∙◌, ap}
use mathlib.Core.Bool.{Bool, true, false, cond, ◌&&◌, ◌||◌, not}
use mathlib.Core.Option.{Option, none, some, some-injective}
use mathlib.Core.List.{List, [], ◌∷◌, ◌++◌}
use Prim.Native.Nat.{ℕ, zero, suc, ◌≤◌, ◌<◌, ◌/◌, ◌%◌}
use native.Mathlib.Omega.{arith}
use native.Mathlib.Decide.{dec_lt}
use borrow.Author.Tests.{eq-eqb, ne_eqb, le-leb, lt-leb, leb-true, leb-false}
use lib.Dec.{leb, eqb}
use lib.ListN.{length, get_or, take, drop, get_or-eq_default}
use Rattle.cedar.proofs.Tools.{no_some, eqb_true, and_left, and_right}
use Rattle.cedar.specs.Numbered.{mem_n}
use Rattle.sheet.specs.Bytes.{leap_year, days_in, is_date, date_in, digits_from, at_most, half, date}
use Rattle.scan.specs.Numbers.{number_of}
use Rattle.sheet.proofs.reading.Parsed.{all_below_law}
use Rattle.forms.proofs.Tests.{NoneOf, none_of, other}

pub leap_no : (y : ℕ) → (y % 4 ≡ 0 → ⊥) → false ≡ leap_year y
leap_no y h = sym (ap (λ b. b && (not (eqb (y % 100) 0) || eqb (y % 400) 0)) (ne_eqb (y % 4) 0 h))

pub leap_yes : (y : ℕ) → y % 4 ≡ 0 → (y % 100 ≡ 0 → ⊥) → true ≡ leap_year y
leap_yes y h k = sym (rw (eq-eqb (y % 4) 0 h, ne_eqb (y % 100) 0 k) refl)

pub leap_last : (y : ℕ) → y % 4 ≡ 0 → y % 100 ≡ 0 → eqb (y % 400) 0 ≡ leap_year y
leap_last y h k = sym (rw (eq-eqb (y % 4) 0 h, eq-eqb (y % 100) 0 k) refl)

-- ---- months

abbrev pub months : List ℕ
months = 12 ∷ 11 ∷ 10 ∷ 9 ∷ 8 ∷ 7 ∷ 6 ∷ 5 ∷ 4 ∷ 3 ∷ 2 ∷ 1 ∷ []

-- what the last arm of the match knows
pub no_month : (y m : ℕ) → NoneOf months m → 0 ≡ days_in y m
no_month y m h = go (dec_lt m 13)
  where
    go : Dec (m < 13) → 0 ≡ days_in y m
    go (yes l) =
        let z : m ≡ 0 = eqb_true m 0 (other (mem_n m months) (eqb m 0) (none_of months m h) (all_below_law (λ (i : ℕ). mem_n i months || eqb i 0) 13 m refl l)) in
        rw z refl
    go (no l) =
        let past : 13 ≤ m = omega arith in
        sym (get_or-eq_default (0 ∷ 31 ∷ cond (leap_year y) 29 28 ∷ 31 ∷ 30 ∷ 31 ∷ 30 ∷ 31 ∷ 31 ∷ 30 ∷ 31 ∷ 30 ∷ 31 ∷ []) 0 past)

pub long_february : (y m : ℕ) (b : Bool) → m ≡ 2 → b ≡ leap_year y → b ≡ true → 29 ≡ days_in y m
long_february y m b e l t = sym (ap (days_in y) e ∙ ap (λ z. cond z 29 28) (sym l ∙ t))

pub short_february : (y m : ℕ) (b : Bool) → m ≡ 2 → b ≡ leap_year y → b ≡ false → 28 ≡ days_in y m
short_february y m b e l t = sym (ap (days_in y) e ∙ ap (λ z. cond z 29 28) (sym l ∙ t))

-- ---- dates

module _ (n : ℕ) where
  pub too_early : n / 10000 < 1900 → false ≡ is_date n
  too_early h = sym (rw (lt-leb 1900 (n / 10000) h) refl)

  pub too_late : 2199 < n / 10000 → false ≡ is_date n
  too_late h = go (leb 1900 (n / 10000)) (lt-leb (n / 10000) 2199 h)
    where
      go : (a : Bool) → leb (n / 10000) 2199 ≡ false → false ≡ ((a && leb (n / 10000) 2199) && (leb 1 (n % 100) && leb (n % 100) (days_in (n / 10000) (n / 100 % 100))))
      go true e = sym (ap (λ b. b && (leb 1 (n % 100) && leb (n % 100) (days_in (n / 10000) (n / 100 % 100)))) e)
      go false e = refl

  pub no_day : n % 100 < 1 → 1900 ≤ n / 10000 → n / 10000 ≤ 2199 → false ≡ is_date n
  no_day h a b = sym (rw (le-leb 1900 (n / 10000) a, le-leb (n / 10000) 2199 b, lt-leb 1 (n % 100) h) refl)

  pub day_or_not : (l : ℕ) → l ≡ days_in (n / 10000) (n / 100 % 100) → 1900 ≤ n / 10000 → n / 10000 ≤ 2199 → 1 ≤ n % 100 → leb (n % 100) l ≡ is_date n
  day_or_not l e a b c = sym (rw (le-leb 1900 (n / 10000) a, le-leb (n / 10000) 2199 b, le-leb 1 (n % 100) c) (ap (leb (n % 100)) (sym e)))

-- ---- ten bytes

abbrev eight : List ℕ → List ℕ
eight s = get_or s 0 0 ∷ get_or s 1 0 ∷ get_or s 2 0 ∷ get_or s 3 0 ∷ get_or s 5 0 ∷ get_or s 6 0 ∷ get_or s 8 0 ∷ get_or s 9 0 ∷ []

-- the first n items, one by one
firsts : ℕ → List ℕ → List ℕ
firsts zero s = []
firsts (suc n) s = get_or s 0 0 ∷ firsts n (drop 1 s)

firsts_are : (n : ℕ) (s : List ℕ) → length s ≡ n → s ≡ firsts n s
unfolding firsts
firsts_are zero [] e = refl
firsts_are zero (x ∷ s) e = absurd (omega (arith, e))
firsts_are (suc n) [] e = absurd (omega (arith, e))
firsts_are (suc n) (x ∷ s) e = ap (λ (l : List ℕ). x ∷ l) (firsts_are n s (omega (arith, e)))

eight_are : (s : List ℕ) → length s ≡ 10 → take 4 s ++ (take 2 (drop 5 s) ++ drop 8 s) ≡ eight s
unfolding firsts
eight_are s e = rw (firsts_are 10 s e) refl

module _ (s : List ℕ) where
  pub not_ten : (length s ≡ 10 → ⊥) → number_of None ≡ date s
  not_ten h = sym (rw (ne_eqb (length s) 10 h) refl)

  module _ (ten : length s ≡ 10) where
    pub no_dash : (get_or s 4 0 ≡ 45 → ⊥) → number_of None ≡ date s
    no_dash h = sym (rw (eq-eqb (length s) 10 ten, ne_eqb (get_or s 4 0) 45 h) refl)

    module _ (dash : get_or s 4 0 ≡ 45) where
      pub no_second : (get_or s 7 0 ≡ 45 → ⊥) → number_of None ≡ date s
      no_second h = sym (rw (eq-eqb (length s) 10 ten, eq-eqb (get_or s 4 0) 45 dash, ne_eqb (get_or s 7 0) 45 h) refl)

      module _ (second : get_or s 7 0 ≡ 45) where
        date_is : date s ≡ date_in (digits_from 0 (eight s))
        date_is = rw (eq-eqb (length s) 10 ten, eq-eqb (get_or s 4 0) 45 dash, eq-eqb (get_or s 7 0) 45 second) (ap (λ l. date_in (digits_from 0 l)) (eight_are s ten))

        pub a_date : (n : ℕ) → some n ≡ at_most half (digits_from 0 (eight s)) → (b : Bool) → b ≡ is_date n → b ≡ true → number_of (Some n) ≡ date s
        a_date n e b i t = sym (date_is ∙ go (digits_from 0 (eight s)) e)
          where
            go : (o : Option ℕ) → some n ≡ at_most half o → date_in o ≡ some n
            go none q = no_some (sym q)
            go (some m) q = keeps (leb m half) q
              where
                keeps : (c : Bool) → some n ≡ cond c (some m) none → cond (is_date m) (some m) none ≡ some n
                keeps true q = ap (λ z. cond (is_date z) (some z) none) (sym (some-injective n m q)) ∙ ap (λ z. cond z (some n) none) (sym i ∙ t)
                keeps false q = no_some (sym q)

        pub no_date : (n : ℕ) → some n ≡ at_most half (digits_from 0 (eight s)) → (b : Bool) → b ≡ is_date n → b ≡ false → number_of None ≡ date s
        no_date n e b i t = sym (date_is ∙ go (digits_from 0 (eight s)) e)
          where
            go : (o : Option ℕ) → some n ≡ at_most half o → date_in o ≡ none
            go none q = refl
            go (some m) q = keeps (leb m half) q
              where
                keeps : (c : Bool) → some n ≡ cond c (some m) none → cond (is_date m) (some m) none ≡ none
                keeps true q = ap (λ z. cond (is_date z) (some z) none) (sym (some-injective n m q)) ∙ ap (λ z. cond z (some n) none) (sym i ∙ t)
                keeps false q = no_some (sym q)

        pub no_digits : none ≡ at_most half (digits_from 0 (eight s)) → number_of None ≡ date s
        no_digits e = sym (date_is ∙ go (digits_from 0 (eight s)) e)
          where
            go : (o : Option ℕ) → none ≡ at_most half o → date_in o ≡ none
            go none q = refl
            go (some m) q = far (leb m half) refl q
              where
                far : (c : Bool) → leb m half ≡ c → none ≡ cond c (some m) none → cond (is_date m) (some m) none ≡ none
                far true p q = no_some q
                far false p q = let z = leb-false m half p in ap (λ b. cond b (some m) none) (sym (too_late m (omega (arith, z))))

-- ---- a date is small

-- a number that no date reaches
abbrev pub past_dates : ℕ
past_dates = 22000000

pub date_small : (s : List ℕ) (n : ℕ) → date s ≡ some n → n < past_dates
date_small s n e = go (eqb (length s) 10 && (eqb (get_or s 4 0) 45 && eqb (get_or s 7 0) 45)) (digits_from 0 (take 4 s ++ (take 2 (drop 5 s) ++ drop 8 s))) e
  where
    year_in : (m : ℕ) (t : Bool) → is_date m ≡ t → cond t (some m) none ≡ some n → n < past_dates
    year_in m true p q =
        let years = and_left (leb 1900 (m / 10000) && leb (m / 10000) 2199) (leb 1 (m % 100) && leb (m % 100) (days_in (m / 10000) (m / 100 % 100))) p in
        let l = leb-true (m / 10000) 2199 (and_right (leb 1900 (m / 10000)) (leb (m / 10000) 2199) years) in
        omega (arith, l, some-injective m n q)
    year_in m false p q = no_some q

    go : (t : Bool) (o : Option ℕ) → cond t (date_in o) none ≡ some n → n < past_dates
    go true none q = no_some q
    go true (some m) q = year_in m (is_date m) refl q
    go false o q = no_some q
