-- A step of a loop over a text, for each definition that goes down a list: at index i the list is `drop i s`. Assumes nothing.
use Rattle.std.proofs.Common.{◌≡◌, ℕ, zero, suc, ◌+◌, ◌-◌, ◌/◌, ◌<◌, ◌≤◌, Bool, true, false, cond, not, ◌&&◌, leb, List, [], ◌∷◌, length, get_or, take, drop, sym, refl, ap, ◌∙◌, add-one, arith, length-drop, drop_of_length-le, take_all, drop-cons, drop-drop, eq-eqb, ne_eqb, le-leb, Some, None, position, nat_eq, nat_lt}
use Rattle.std.specs.Option.{unwrap_or}
use Rattle.std.specs.List.{position_or_len}
use Rattle.std.proofs.lemmas.List.Sums.{prefix_len-le-length}
use Rattle.std.proofs.lemmas.List.Recursion.{is_position_or_len}
use borrow.Author.Tests.{ltb-false, lt-leb, not-false, not-true}
use lib.Count.{count_trailing_zeros}
use lib.Seq.{take-nil, drop-nil}
use Rattle.words.specs.Log.{part}
use Rattle.sheet.specs.Bytes.{up_to, same, printable}
use Rattle.sheet.proofs.demand3.TwoSheets.{same_is}
use Rattle.scan.specs.Places.{is_printable, plain_to, Marked}

module _ (c : ℕ) (s : List ℕ) (i : ℕ) where
  up_to_here : i < length s → get_or s i 0 ≡ c → up_to c (drop i s) ≡ 0
  up_to_here h e = rw (drop-cons s i 0 h, eq-eqb _ _ e)

  up_to_on : i < length s → (get_or s i 0 ≡ c → ⊥) → up_to c (drop i s) ≡ suc (up_to c (drop (i + 1) s))
  up_to_on h e = rw (add-one i, drop-cons s i 0 h, ne_eqb _ _ e)

  up_to_end : length s ≤ i → up_to c (drop i s) ≡ 0
  up_to_end h = rw (drop_of_length-le s h)

and_false : (t : Bool) → (t && false) ≡ false
and_false true = refl
and_false false = refl

pub same_length : (a b : List ℕ) → (length a ≡ length b → ⊥) → same a b ≡ false
same_length [] [] e = absurd (e refl)
same_length [] (y ∷ b) e = refl
same_length (x ∷ a) [] e = refl
same_length (x ∷ a) (y ∷ b) e =
    let h : same a b ≡ false = same_length a b (λ p. e (ap suc p)) in
    rw (h, and_false)

module _ (s : List ℕ) (i : ℕ) where
  printable_on : i < length s → 32 ≤ get_or s i 0 → get_or s i 0 ≤ 126 → printable (drop i s) ≡ printable (drop (i + 1) s)
  printable_on h l g = rw (add-one i, drop-cons s i 0 h, le-leb 32 (get_or s i 0) l, le-leb (get_or s i 0) 126 g)

  printable_end : length s ≤ i → printable (drop i s) ≡ true
  printable_end h = rw (drop_of_length-le s h)

-- ---- the turns of the loops

-- the first place that passes a test, or the end
first_or_end : (p : ℕ → Bool) (l : List ℕ) → unwrap_or (position p l) (length l) ≡ position_or_len p l
first_or_end p l = go (nat_lt (position_or_len p l) (length l)) refl
  where
    most : position_or_len p l ≤ length l
    most = prefix_len-le-length (λ (x : ℕ). not (p x)) l

    go : (t : Bool) → nat_lt (position_or_len p l) (length l) ≡ t → unwrap_or (cond t (Some (position_or_len p l)) None) (length l) ≡ position_or_len p l
    go true e = refl
    go false e = omega (arith, most, ltb-false (position_or_len p l) (length l) e)

step_of : (t : Bool) (n : ℕ) → cond t 0 (suc n) ≡ cond t 0 (1 + n)
step_of true n = refl
step_of false n = omega arith

pub up_to_found : (c : ℕ) (l : List ℕ) → unwrap_or (position (λ (x : ℕ). nat_eq x c) l) (length l) ≡ up_to c l
up_to_found c l =
    first_or_end (λ (x : ℕ). nat_eq x c) l ∙ sym (is_position_or_len (up_to c) (λ (x : ℕ). nat_eq x c) refl (λ x xs. step_of (nat_eq x c) (up_to c xs)) l)

pub plain_to_found : (l : List ℕ) → unwrap_or (position (λ (x : ℕ). not (is_printable x)) l) (length l) ≡ plain_to l
plain_to_found l = first_or_end (λ (x : ℕ). not (is_printable x)) l ∙ sym (is_position_or_len plain_to (λ (x : ℕ). not (is_printable x)) refl step l)
  where
    go : (t : Bool) (n : ℕ) → cond t (suc n) 0 ≡ cond (not t) 0 (1 + n)
    go true n = omega arith
    go false n = refl

    step : (x : ℕ) (xs : List ℕ) → plain_to (x ∷ xs) ≡ cond (not (is_printable x)) 0 (1 + plain_to xs)
    step x xs = go (is_printable x) (plain_to xs)

-- where a test of bytes stands: the first i are printable
pub record Printing (s : List ℕ) (i : ℕ) : Type 0 where
  pub near : i ≤ length s
  pub left : printable s ≡ printable (drop i s)

pub plain_low : (x : ℕ) → x < 32 → false ≡ is_printable x
plain_low x h = rw (lt-leb 32 x h) refl

pub plain_high : (x : ℕ) (t : Bool) → 32 ≤ x → t ≡ leb x 126 → t ≡ is_printable x
plain_high x t h e = rw (le-leb 32 x h) e

pub printing_start : (s : List ℕ) → Printing s 0
printing_start s = record { near = omega arith; left = refl }

module _ (s : List ℕ) (i : ℕ) (k : Printing s i) where
  pub printing_on : i < length s → 32 ≤ get_or s i 0 → get_or s i 0 ≤ 126 → Printing s (i + 1)
  printing_on h l g = record { near = omega arith; left = k.left ∙ printable_on s i h l g }

  pub printing_end : length s ≤ i → true ≡ printable s
  printing_end h = sym (k.left ∙ printable_end s i h)

-- where a search for a byte that is not printable stands: at i, where it will find it at p
pub record Passing (s : List ℕ) (p i : ℕ) : Type 0 where
  pub left : p ≡ i + plain_to (drop i s)

pub passing_from : (s : List ℕ) (i : ℕ) → Passing s (i + plain_to (drop i s)) i
passing_from s i = record { left = refl }

pub passing_start : (s : List ℕ) → Passing s (plain_to s) 0
passing_start s = record { left = omega arith }

module _ (s : List ℕ) (p i : ℕ) (k : Passing s p i) where
  pub passing_rest : (r : ℕ) → r ≡ i + plain_to (drop i s) → r ≡ p
  passing_rest r e = e ∙ sym k.left

  pub passing_end : length s ≤ i → i ≡ p
  passing_end h = let e : plain_to (drop i s) ≡ 0 = rw (drop_of_length-le s h) refl in omega (arith, k.left)

  module _ (t : Bool) (h : i < length s) (b : t ≡ is_printable (get_or s i 0)) where
    plain_first : plain_to (drop i s) ≡ cond t (suc (plain_to (drop (i + 1) s))) 0
    plain_first = rw (add-one i, drop-cons s i 0 h, b) refl

    pub passing_stop : not t ≡ true → i ≡ p
    passing_stop n = let e : plain_to (drop i s) ≡ 0 = plain_first ∙ rw (not-true t n) refl in omega (arith, k.left)

    pub passing_on : not t ≡ false → (j : ℕ) → j ≡ i + 1 → Passing s p j
    passing_on n j q =
        let e : plain_to (drop i s) ≡ suc (plain_to (drop (i + 1) s)) = plain_first ∙ rw (not-false t n) refl in
        record { left = rw q (omega (arith, k.left)) }

-- the same, eight bytes at a step
pub record Stepping (s : List ℕ) (p i : ℕ) : Type 0 where
  pub passing : Passing s p i
  pub near : i ≤ length s

pub stepping_start : (s : List ℕ) → Stepping s (plain_to s) 0
stepping_start s = record { passing = passing_start s; near = omega arith }

plain_all : (n : ℕ) (l : List ℕ) → plain_to (take n l) ≡ n → plain_to l ≡ n + plain_to (drop n l)
plain_all zero l e = omega arith
plain_all (suc n) [] e = absurd (omega (arith, e))
plain_all (suc n) (x ∷ l) e = go (is_printable x) (plain_all n l) e
  where
    go : (t : Bool) → (plain_to (take n l) ≡ n → plain_to l ≡ n + plain_to (drop n l)) → cond t (suc (plain_to (take n l))) 0 ≡ suc n
        → cond t (suc (plain_to l)) 0 ≡ suc n + plain_to (drop n l)
    go true f q = omega (arith, f (omega (arith, q)))
    go false f q = absurd (omega (arith, q))

plain_some : (n : ℕ) (l : List ℕ) → plain_to (take n l) < n → plain_to l ≡ plain_to (take n l)
plain_some zero l h = absurd (omega arith)
plain_some (suc n) [] h = refl
plain_some (suc n) (x ∷ l) h = go (is_printable x) (plain_some n l) h
  where
    go : (t : Bool) → (plain_to (take n l) < n → plain_to l ≡ plain_to (take n l)) → cond t (suc (plain_to (take n l))) 0 < suc n
        → cond t (suc (plain_to l)) 0 ≡ cond t (suc (plain_to (take n l))) 0
    go true f q = ap suc (f (omega arith))
    go false f q = refl

module _ (s : List ℕ) (p i : ℕ) (k : Stepping s p i) where
  pub stepping_rest : (r : ℕ) → r ≡ i + plain_to (drop i s) → r ≡ p
  stepping_rest = passing_rest s p i k.passing

  module _ (eight : 8 ≤ length s - i) (m : ℕ) (q : Marked (take 8 (drop i s)) m) where
    pub stepping_on : m ≡ 0 → Stepping s p (i + 8)
    stepping_on e =
        let a : plain_to (drop i s) ≡ 8 + plain_to (drop 8 (drop i s)) = plain_all 8 (drop i s) (q.none e) in
        let d : drop 8 (drop i s) ≡ drop (i + 8) s = drop-drop 8 i s in
        record { passing = record { left = rw (← d) (omega (arith, k.passing.left, a)) }; near = omega arith }

    pub stepping_stop : (m ≡ 0 → ⊥) → i + count_trailing_zeros 64 m / 8 ≡ p
    stepping_stop e = omega (arith, k.passing.left, plain_some 8 (drop i s) (q.some e), q.before)

    pub stepping_room : (m ≡ 0 → ⊥) → count_trailing_zeros 64 m / 8 < 8
    stepping_room e = omega (arith, q.some e, q.before)

-- ---- parts of a text

pub front_is : (s : List ℕ) (e : ℕ) → take (e - 0) s ≡ take e s
front_is s e = let z : e - 0 ≡ e = omega arith in rw z

pub front_all : (s : List ℕ) (e : ℕ) → length s < e → s ≡ take e s
front_all s e h = sym (take_all e s (omega arith))

pub rest_is : (s : List ℕ) (a : ℕ) → take (length s - a) (drop a s) ≡ drop a s
rest_is s a = take_all (length s - a) (drop a s) (rw (length-drop a s) (omega arith))

pub rest_none : (s : List ℕ) (a : ℕ) → length s < a → [] ≡ drop a s
rest_none s a h = rw (drop_of_length-le s {i = a} (omega arith))

pub rest_part : (s r : List ℕ) (a e : ℕ) → length s < e → r ≡ drop a s → r ≡ part s a e
rest_part s r a e h p = p ∙ sym (take_all (e - a) (drop a s) (rw (length-drop a s) (omega arith)))

pub value_none : (s r : List ℕ) (a e : ℕ) → length s ≤ a → r ≡ drop a s → r ≡ part s (a + 1) e
value_none s r a e h p =
    p ∙ drop_of_length-le s h ∙ sym (ap (take (e - (a + 1))) (drop_of_length-le s {i = a + 1} (omega arith)) ∙ take-nil (e - (a + 1)))

-- the value of a line, in the part of the sheet that ends with the line
pub drop_take : (e a : ℕ) (s : List ℕ) → drop a (take e s) ≡ part s a e
drop_take zero a s = drop-nil a ∙ sym (ap (λ (n : ℕ). take n (drop a s)) z)
  where
    z : 0 - a ≡ 0
    z = omega arith
drop_take (suc e) zero s = ap (λ (n : ℕ). take n s) z
  where
    z : suc e ≡ suc e - 0
    z = omega arith
drop_take (suc e) (suc a) [] = sym (take-nil (suc e - suc a))
drop_take (suc e) (suc a) (x ∷ s) = drop_take e a s ∙ ap (λ (n : ℕ). take n (drop a s)) z
  where
    z : e - a ≡ suc e - suc a
    z = omega arith

-- ---- words that are the same

-- a word that was tried
pub tried : (name w : List ℕ) (t : Bool) → t ≡ same name w → t ≡ true → w ≡ name
tried name w t s h = sym (same_is name w (sym s ∙ h))

-- equal words have equal bytes at every place
pub same_last : (a b : List ℕ) (i : ℕ) → (get_or a i 0 ≡ get_or b i 0 → ⊥) → false ≡ same a b
same_last a b i e = go (same a b) refl
  where
    go : (t : Bool) → same a b ≡ t → false ≡ t
    go true q = absurd (e (ap (λ (l : List ℕ). get_or l i 0) (same_is a b q)))
    go false q = refl
