-- The parts of a text between separators, found one after the other. Assumes nothing.
use Rattle.std.proofs.Common.{◌≡◌, ℕ, suc, ◌+◌, ◌-◌, ◌<◌, ◌≤◌, Bool, true, false, cond, eqb, ltb, List, [], ◌∷◌, length, take, drop, refl, ap, ◌∙◌, suc-le-suc, zero-le, arith, length-drop, drop-drop, ltb-false, ltb-true, le-ltb, lt-ltb, le-leb, Some}
use Rattle.std.specs.Prelude as Std
use borrow.Author.Tests.{lt-leb}
use lib.Dec.{leb-suc-suc}
use Rattle.words.specs.Log.{part}
use Rattle.sheet.specs.Bytes.{up_to, ahead, split}
use Rattle.scan.specs.Places.{parts_from}

-- a pair that was found
some_is : {A : Type 0} {a b : A} → Some a ≡ Some b → a ≡ b
some_is e = cc

pub some_pair : {A B : Type 0} {a c : A} {b d : B} → ◌≡◌ {A = Std.Option (A × B)} (Some (a, b)) (Some (c, d)) → (a ≡ c) × (b ≡ d)
some_pair {A = A} {B = B} e = let p = some_is e in (ap (λ (x : A × B). x.0) p, ap (λ (x : A × B). x.1) p)

pub up_to_le : (c : ℕ) (l : List ℕ) → up_to c l ≤ length l
up_to_le c [] = zero-le
up_to_le c (x ∷ l) = step (eqb x c) (up_to_le c l)
  where
    step : (b : Bool) → up_to c l ≤ length l → cond b 0 (suc (up_to c l)) ≤ suc (length l)
    step true h = zero-le
    step false h = suc-le-suc h

pub split_parts : (c : ℕ) (l : List ℕ) → split c l ≡ take (up_to c l) l ∷ parts_from c l (suc (up_to c l))
unfolding parts_from
split_parts c [] = refl
split_parts c (x ∷ l) = step (eqb x c) (split_parts c l)
  where
    step : (b : Bool) → split c l ≡ take (up_to c l) l ∷ parts_from c l (suc (up_to c l))
        → cond b ([] ∷ split c l) (ahead x (split c l)) ≡ take (cond b 0 (suc (up_to c l))) (x ∷ l) ∷ parts_from c (x ∷ l) (suc (cond b 0 (suc (up_to c l))))
    step true h = rw (lt-ltb 0 (suc (length l)) (suc-le-suc zero-le))
    step false h = rw (h, leb-suc-suc (suc (up_to c l)) (length l))

shift : (u n a : ℕ) → a ≤ n → ltb u (n - a) ≡ ltb (a + u) n
shift u n a h = go (ltb (a + u) n) refl
  where
    go : (b : Bool) → ltb (a + u) n ≡ b → ltb u (n - a) ≡ b
    go true e = lt-ltb u (n - a) (omega (arith, ltb-true (a + u) n e))
    go false e = le-ltb u (n - a) (omega (arith, ltb-false (a + u) n e))

-- the separator that was found, from place a on
module _ (c : ℕ) (l : List ℕ) (a e : ℕ) (h : a ≤ length l) (f : e ≡ a + up_to c (drop a l)) where
  pub found_le : e ≤ length l
  found_le = omega (arith, up_to_le c (drop a l), length-drop a l)

  after_drop : parts_from c (drop a l) (suc (up_to c (drop a l))) ≡ parts_from c l (e + 1)
  unfolding parts_from
  after_drop =
      let u = up_to c (drop a l) in
      let p : a + suc u ≡ e + 1 = omega arith in
      let q : suc (a + u) ≡ e + 1 = omega arith in
      rw (length-drop a l, shift u (length l) a h, drop-drop (suc u) a l, p, q)

  -- the parts from a on are the one that ends there, and the rest
  pub split_at : split c (drop a l) ≡ part l a e ∷ parts_from c l (e + 1)
  split_at =
      let u : up_to c (drop a l) ≡ e - a = omega arith in
      split_parts c (drop a l) ∙ ap (λ (t : List (List ℕ)). take (up_to c (drop a l)) (drop a l) ∷ t) after_drop
      ∙ ap (λ (n : ℕ). take n (drop a l) ∷ parts_from c l (e + 1)) u

module _ (c : ℕ) (l : List ℕ) (a : ℕ) where
  pub from_on : a ≤ length l → parts_from c l a ≡ split c (drop a l)
  unfolding parts_from
  from_on h = rw (le-leb a (length l) h)

  pub from_end : length l < a → parts_from c l a ≡ []
  unfolding parts_from
  from_end h = rw (lt-leb a (length l) h)
