-- The index in front of some bytes, read byte by byte. Assumes nothing.
use Rattle.std.proofs.Common.{◌≡◌, ℕ, suc, ◌+◌, ◌-◌, ◌*◌, ◌<◌, ◌≤◌, Bool, true, false, cond, List, [], ◌∷◌, length, get_or, drop, sym, refl, ap, ◌∙◌, subst, ap₂, add-one, arith, drop_of_length-le, drop-cons, le-ltb, lt-ltb, eq-eqb, ne_eqb, le-leb, Some, None}
use mathlib.Core.Option.{none}
use native.Mathlib.Decide.{ℕ_discrete, dec_lt}
use borrow.Author.Tests.{lt-leb}
use Rattle.sheet.specs.Bytes.{up_to, is_digit, digits_from, decimal, at_most, index}
use Rattle.scan.specs.Places.{lead, told, index_in, ended_at, DigitRead, Leading}
use Rattle.scan.specs.Numbers.{Number}

-- ---- the bytes before the first comma, by the first byte

lead_comma : (x : ℕ) (l : List ℕ) → x ≡ 44 → lead (x ∷ l) ≡ []
lead_comma x l e = rw (eq-eqb x 44 e) refl

lead_on : (x : ℕ) (l : List ℕ) → (x ≡ 44 → ⊥) → lead (x ∷ l) ≡ x ∷ lead l
lead_on x l e = rw (ne_eqb x 44 e) refl

-- a number only grows as digits follow
over : (n : ℕ) (l : List ℕ) → 9999 < n → at_most 9999 (digits_from n l) ≡ none
over n [] h = rw (lt-leb n 9999 h) refl
over n (x ∷ l) h = go (is_digit x) (over (n * 10 + (x - 48)) l (omega arith))
  where
    go : (t : Bool) → at_most 9999 (digits_from (n * 10 + (x - 48)) l) ≡ none → at_most 9999 (cond t (digits_from (n * 10 + (x - 48)) l) none) ≡ none
    go true r = r
    go false r = refl

digit_on : (n x : ℕ) (l : List ℕ) → 48 ≤ x → x ≤ 57 → digits_from n (x ∷ l) ≡ digits_from (n * 10 + (x - 48)) l
digit_on n x l a b = rw (le-leb 48 x a, le-leb x 57 b) refl

digit_low : (n x : ℕ) (l : List ℕ) → x < 48 → digits_from n (x ∷ l) ≡ none
digit_low n x l a = rw (lt-leb 48 x a) refl

digit_high : (n x : ℕ) (l : List ℕ) → 57 < x → digits_from n (x ∷ l) ≡ none
digit_high n x l a = let b : 48 ≤ x = omega arith in rw (le-leb 48 x b, lt-leb x 57 a) refl

first_digit : (x : ℕ) (l : List ℕ) → (x ≡ 48 → ⊥) → decimal (x ∷ l) ≡ digits_from 0 (x ∷ l)
first_digit x [] e = refl
first_digit x (y ∷ l) e = rw (ne_eqb x 48 e) refl

-- where the reader stands: n from the bytes before i
pub record Reading (s : List ℕ) (n i : ℕ) : Type 0 where
  pub near : i ≤ length s
  pub low : n ≤ 9999
  pub left : index_in s ≡ told (i + up_to 44 (drop i s)) (at_most 9999 (digits_from n (lead (drop i s))))

module _ (s : List ℕ) (i : ℕ) (h : i < length s) where
  uncons : drop i s ≡ get_or s i 0 ∷ drop (i + 1) s
  uncons = rw (add-one i) (drop-cons s i 0 h)

  end_on : (get_or s i 0 ≡ 44 → ⊥) → i + up_to 44 (drop i s) ≡ i + 1 + up_to 44 (drop (i + 1) s)
  end_on e =
      let u : up_to 44 (drop i s) ≡ suc (up_to 44 (drop (i + 1) s)) = ap (up_to 44) uncons ∙ rw (ne_eqb (get_or s i 0) 44 e) refl in
      omega arith

  end_here : get_or s i 0 ≡ 44 → i + up_to 44 (drop i s) ≡ i
  end_here e = let u : up_to 44 (drop i s) ≡ 0 = ap (up_to 44) uncons ∙ rw (eq-eqb (get_or s i 0) 44 e) refl in omega arith

  lead_is : (get_or s i 0 ≡ 44 → ⊥) → lead (drop i s) ≡ get_or s i 0 ∷ lead (drop (i + 1) s)
  lead_is e = ap lead uncons ∙ lead_on (get_or s i 0) (drop (i + 1) s) e

-- ---- the first byte

none_there : (s : List ℕ) → index (lead s) ≡ none → None ≡ index_in s
none_there s e = sym (ap (told (up_to 44 s)) e)

index_none : (s : List ℕ) → length s ≡ 0 → None ≡ index_in s
index_none [] h = refl
index_none (x ∷ s) h = absurd (omega arith)

module _ (s : List ℕ) (ne : length s ≡ 0 → ⊥) where
  h : 0 < length s
  h = omega arith

  first_is : (get_or s 0 0 ≡ 44 → ⊥) → (get_or s 0 0 ≡ 48 → ⊥) → index (lead s) ≡ at_most 9999 (digits_from 0 (get_or s 0 0 ∷ lead (drop 1 s)))
  first_is c z = ap index (lead_is s 0 h c) ∙ ap (at_most 9999) (first_digit (get_or s 0 0) (lead (drop 1 s)) z)

  index_low : (get_or s 0 0 ≡ 48 → ⊥) → get_or s 0 0 < 48 → None ≡ index_in s
  index_low z l = none_there s (go (ℕ_discrete (get_or s 0 0) 44))
    where
      go : Dec (get_or s 0 0 ≡ 44) → index (lead s) ≡ none
      go (yes c) = ap index (ap lead (uncons s 0 h) ∙ lead_comma (get_or s 0 0) (drop 1 s) c)
      go (no c) = first_is c z ∙ ap (at_most 9999) (digit_low 0 (get_or s 0 0) (lead (drop 1 s)) l)

  index_high : (get_or s 0 0 ≡ 48 → ⊥) → 57 < get_or s 0 0 → None ≡ index_in s
  index_high z g = none_there s (first_is (λ c. absurd (omega arith)) z ∙ ap (at_most 9999) (digit_high 0 (get_or s 0 0) (lead (drop 1 s)) g))

  reading_start : (get_or s 0 0 ≡ 48 → ⊥) → 48 ≤ get_or s 0 0 → get_or s 0 0 ≤ 57 → Reading s (get_or s 0 0 - 48) 1
  reading_start z l g =
      let c : get_or s 0 0 ≡ 44 → ⊥ = λ e. absurd (omega arith) in
      let n : 0 * 10 + (get_or s 0 0 - 48) ≡ get_or s 0 0 - 48 = omega arith in
      let u : up_to 44 s ≡ 1 + up_to 44 (drop 1 s) = omega (arith, end_on s 0 h c) in
      let v : index (lead s) ≡ at_most 9999 (digits_from (get_or s 0 0 - 48) (lead (drop 1 s))) =
      first_is c z ∙ ap (at_most 9999) (digit_on 0 (get_or s 0 0) (lead (drop 1 s)) l g ∙ ap (λ (m : ℕ). digits_from m (lead (drop 1 s))) n) in
      record { near = omega arith; low = omega arith; left = ap₂ told u v }

-- a zero stands alone
module _ (s : List ℕ) (h : 0 < length s) (z : get_or s 0 0 ≡ 48) where
  zero_is : lead s ≡ 48 ∷ lead (drop 1 s)
  zero_is = lead_is s 0 h (λ e. absurd (omega arith)) ∙ ap (λ (x : ℕ). x ∷ lead (drop 1 s)) z

  zero_on : lead (drop 1 s) ≡ [] → 1 + up_to 44 (drop 1 s) ≡ 1 → Some (0, 1) ≡ index_in s
  zero_on e f =
      let u : up_to 44 s ≡ 1 = omega (arith, end_on s 0 h (λ e. absurd (omega arith))) in
      sym (ap₂ (λ (k : ℕ) (l : List ℕ). told k (index l)) u (zero_is ∙ ap (λ (l : List ℕ). 48 ∷ l) e))

  zero_end : length s ≤ 1 → Some (0, 1) ≡ index_in s
  zero_end l = let d = drop_of_length-le s {i = 1} l in zero_on (ap lead d) (ap (λ (k : List ℕ). 1 + up_to 44 k) d)

  module _ (l : 1 < length s) where
    zero_comma : get_or s 1 0 ≡ 44 → Some (0, 1) ≡ index_in s
    zero_comma c = zero_on (ap lead (uncons s 1 l) ∙ lead_comma (get_or s 1 0) (drop 2 s) c) (end_here s 1 l c)

    zero_more : (get_or s 1 0 ≡ 44 → ⊥) → None ≡ index_in s
    zero_more c = none_there s (ap index (zero_is ∙ ap (λ (k : List ℕ). 48 ∷ k) (lead_is s 1 l c)))

-- ---- the bytes after it

module _ (s : List ℕ) (n i : ℕ) (r : Reading s n i) where
  done : i + up_to 44 (drop i s) ≡ i → lead (drop i s) ≡ [] → Some (n, i) ≡ index_in s
  done e f = sym (r.left ∙ rw (e, f) (rw (le-leb n 9999 r.low) refl))

  reading_end : length s ≤ i → Some (n, i) ≡ index_in s
  reading_end h = let d = drop_of_length-le s {i = i} h in done (ap (λ (k : List ℕ). i + up_to 44 k) d ∙ omega arith) (ap lead d)

  module _ (h : i < length s) where
    reading_comma : get_or s i 0 ≡ 44 → Some (n, i) ≡ index_in s
    reading_comma c = done (end_here s i h c) (ap lead (uncons s i h) ∙ lead_comma (get_or s i 0) (drop (i + 1) s) c)

    module _ (c : get_or s i 0 ≡ 44 → ⊥) where
      failed : at_most 9999 (digits_from n (get_or s i 0 ∷ lead (drop (i + 1) s))) ≡ none → None ≡ index_in s
      failed e = sym (r.left ∙ ap (told (i + up_to 44 (drop i s))) (ap (λ (l : List ℕ). at_most 9999 (digits_from n l)) (lead_is s i h c) ∙ e))

      reading_low : get_or s i 0 < 48 → None ≡ index_in s
      reading_low l = failed (ap (at_most 9999) (digit_low n (get_or s i 0) (lead (drop (i + 1) s)) l))

      reading_high : 57 < get_or s i 0 → None ≡ index_in s
      reading_high g = failed (ap (at_most 9999) (digit_high n (get_or s i 0) (lead (drop (i + 1) s)) g))

      module _ (l : 48 ≤ get_or s i 0) (g : get_or s i 0 ≤ 57) where
        reading_over : 999 < n → None ≡ index_in s
        reading_over o = failed (ap (at_most 9999) (digit_on n (get_or s i 0) (lead (drop (i + 1) s)) l g) ∙ over (n * 10 + (get_or s i 0 - 48)) (lead (drop (i + 1) s)) (omega arith))

        reading_on_law : n ≤ 999 → Reading s (n * 10 + (get_or s i 0 - 48)) (i + 1)
        reading_on_law o =
            let v : digits_from n (lead (drop i s)) ≡ digits_from (n * 10 + (get_or s i 0 - 48)) (lead (drop (i + 1) s)) =
            ap (digits_from n) (lead_is s i h c) ∙ digit_on n (get_or s i 0) (lead (drop (i + 1) s)) l g in
            record { near = omega arith; low = omega arith; left = r.left ∙ rw (end_on s i h c, v) refl }

-- ---- by the digits that are found

module _ (s : List ℕ) (n i : ℕ) (l : Leading) (e : l ≡ ended_at s n i) where
  ended_by : (length s ≤ i → Some (n, i) ≡ index_in s) → (i < length s → get_or s i 0 ≡ 44 → Some (n, i) ≡ index_in s)
      → (i < length s → (get_or s i 0 ≡ 44 → ⊥) → None ≡ index_in s) → l ≡ index_in s
  ended_by f g k = e ∙ go (dec_lt i (length s)) (ℕ_discrete (get_or s i 0) 44)
    where
      go : Dec (i < length s) → Dec (get_or s i 0 ≡ 44) → ended_at s n i ≡ index_in s
      go (no h) d = rw (le-ltb i (length s) (omega arith)) (f (omega arith))
      go (yes h) (yes c) = rw (lt-ltb i (length s) h, eq-eqb (get_or s i 0) 44 c) (g h c)
      go (yes h) (no c) = rw (lt-ltb i (length s) h, ne_eqb (get_or s i 0) 44 c) (k h c)

  reading_ended : Reading s n i → (i < length s → 48 ≤ get_or s i 0 → get_or s i 0 ≤ 57 → 999 < n) → l ≡ index_in s
  reading_ended r o = ended_by (reading_end s n i r) (reading_comma s n i r) (λ h c. go h c (dec_lt (get_or s i 0) 48) (dec_lt 57 (get_or s i 0)))
    where
      go : i < length s → (get_or s i 0 ≡ 44 → ⊥) → Dec (get_or s i 0 < 48) → Dec (57 < get_or s i 0) → None ≡ index_in s
      go h c (yes a) b = reading_low s n i r h c a
      go h c (no a) (yes b) = reading_high s n i r h c b
      go h c (no a) (no b) = reading_over s n i r h c (omega arith) (omega arith) (o h (omega arith) (omega arith))

  pub reading_stop : Reading s n i → (d : Number) → DigitRead s i d → d ≡ None → l ≡ index_in s
  reading_stop r d q g = reading_ended r (λ h a b. absurd (q.none_there g h a b))

  pub reading_full : Reading s n i → 999 < n → l ≡ index_in s
  reading_full r g = reading_ended r (λ h a b. g)

pub reading_digit : (s : List ℕ) (n i : ℕ) → Reading s n i → n ≤ 999 → (r : Number) → DigitRead s i r → (d : ℕ) → r ≡ Some d → Reading s (n * 10 + d) (i + 1)
reading_digit s n i r o k q d g =
    let p = q.there d g in
    let e : get_or s i 0 - 48 ≡ d = omega (arith, p.1) in
    subst (λ (x : ℕ). Reading s (n * 10 + x) (i + 1)) e (reading_on_law s n i r p.0 (λ c. absurd (omega (arith, p.1))) (omega (arith, p.1)) (omega (arith, p.1)) o)

module _ (s : List ℕ) (r : Number) (q : DigitRead s 0 r) where
  some_there : (a : ℕ) → r ≡ Some a → length s ≡ 0 → ⊥
  some_there a g e = absurd (omega (arith, (q.there a g).0, e))

  pub reading_first : (a : ℕ) → r ≡ Some a → (a ≡ 0 → ⊥) → Reading s a 1
  reading_first a g z =
      let p = q.there a g in
      let e : get_or s 0 0 - 48 ≡ a = omega (arith, p.1) in
      subst (λ (x : ℕ). Reading s x 1) e (reading_start s (some_there a g) (λ c. z (omega (arith, p.1, c))) (omega (arith, p.1)) (omega (arith, p.1)))

  pub zero_ended : (a : ℕ) → r ≡ Some a → a ≡ 0 → (l : Leading) → l ≡ ended_at s 0 1 → l ≡ index_in s
  zero_ended a g z l e =
      let p = q.there a g in
      let c : get_or s 0 0 ≡ 48 = omega (arith, p.1) in
      ended_by s 0 1 l e (zero_end s p.0 c) (λ h. zero_comma s p.0 c h) (λ h. zero_more s p.0 c h)

  pub index_other : r ≡ None → None ≡ index_in s
  index_other g = go (ℕ_discrete (length s) 0) (dec_lt (get_or s 0 0) 48) (dec_lt 57 (get_or s 0 0))
    where
      go : Dec (length s ≡ 0) → Dec (get_or s 0 0 < 48) → Dec (57 < get_or s 0 0) → None ≡ index_in s
      go (yes e) b c = index_none s e
      go (no e) (yes b) c = index_low s e (λ z. absurd (omega (arith, z))) b
      go (no e) (no b) (yes c) = index_high s e (λ z. absurd (omega (arith, z))) c
      go (no e) (no b) (no c) = absurd (q.none_there g (omega arith) (omega arith) (omega arith))
