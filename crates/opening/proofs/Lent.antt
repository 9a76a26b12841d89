-- A call by its tests of what it was lent: a work slice too short, or the rest of the call and the clearing. Assumes nothing.
use mathlib.Core.Path.{◌≡◌, refl, sym, ◌∙◌, ap, ap₂}
use mathlib.Core.Bool.{Bool, true, false, cond, ◌||◌}
use mathlib.Core.List.{List, ◌++◌}
use Prim.Native.Nat.{ℕ, ◌≤◌, ◌<◌}
use native.Mathlib.Omega.{arith}
use borrow.Author.Tests.{lt-ltb, le-ltb}
use lib.Dec.{ltb}
use lib.ListN.{length, take, drop, replicate, length-append, length-drop}
use lib.Seq.{drop_at, length-take-le}
use Rattle.words.specs.Log.{cleared}
use Rattle.words.specs.Log as L
use Rattle.words.proofs.Stores.{cleared_long}
use Rattle.sheet.specs.Call.{Returned, returns, room, lent_then, outputs, zeros, worked}
use Rattle.response.specs.Runs.{Gives}
use Rattle.opening.specs.Promised.{Promised}

or_true : (p : Bool) → (p || true) ≡ true
or_true true = refl
or_true false = refl

-- ---- work slices; their number of zeros is a variable: at a numeral they would be written out

zeros_is : (n : ℕ) (w : List ℕ) → L.zeros n w ≡ replicate n 0 ++ drop n w
unfolding L.zeros
zeros_is n w = refl

-- a part of n words was lent, and came back as p
zeros_part : (n : ℕ) (p w : List ℕ) → length p ≡ n → L.zeros n (p ++ drop n w) ≡ replicate n 0 ++ drop n w
zeros_part n p w e = zeros_is n (p ++ drop n w) ∙ ap (λ (t : List ℕ). replicate n 0 ++ t) (drop_at p (drop n w) n e)

-- a part of 16,384 words
module _ (w : List ℕ) (h : 16384 ≤ length w) where
  pub part_long : length (take 16384 w) ≡ 16384
  part_long = length-take-le 16384 w h

  pub part_same : (p v : List ℕ) → length p ≡ length (take 16384 w) → length v ≡ length (p ++ drop 16384 w) → length v ≡ length w
  part_same p v e f = omega (arith, part_long, length-append p (drop 16384 w), length-drop 16384 w)

module _ (w : List ℕ) (other : ℕ) where
  worked_short : length w < 16384 → w ≡ worked w other
  unfolding worked
  worked_short h = sym (ap (λ (x : Bool). cond (x || ltb other room) w (zeros room w)) (lt-ltb (length w) 16384 h))

  worked_other : other < 16384 → w ≡ worked w other
  unfolding worked
  worked_other h = sym (ap (λ (x : Bool). cond x w (zeros room w)) (ap (λ (x : Bool). ltb (length w) room || x) (lt-ltb other 16384 h) ∙ or_true (ltb (length w) room)))

  module _ (h : 16384 ≤ length w) (k : 16384 ≤ other) where
    worked_long : worked w other ≡ zeros 16384 w
    unfolding worked
    worked_long = ap₂ (λ (x y : Bool). cond (x || y) w (zeros room w)) (le-ltb (length w) 16384 h) (le-ltb other 16384 k)

    worked_part : (p v : List ℕ) → length p ≡ length (take 16384 w) → v ≡ cleared (p ++ drop 16384 w) → v ≡ worked w other
    worked_part p v l e =
        let i : length p ≡ 16384 = l ∙ part_long w h in
        e ∙ sym (cleared_long (p ++ drop 16384 w) (omega (arith, i, length-append p (drop 16384 w)))) ∙ zeros_part 16384 p w i ∙ sym worked_long

-- ---- the call, which returns r where both slices are long enough

module _ (r : Returned) (bytes w₁ w₂ out : List ℕ) where
  abbrev back : Returned
  back = lent_then (length w₁) (length w₂) r

  -- 1
  refuses : back ≡ returns 1 0 0 → w₁ ≡ worked w₁ (length w₂) → w₂ ≡ worked w₂ (length w₁) → Promised back bytes w₁ w₂ out 1 0 0 out w₁ w₂
  refuses e p q = record {
    number_is = sym (ap (λ (x : Returned). x.number) e);
    line_is = sym (ap (λ (x : Returned). x.line) e);
    length_is = sym (ap (λ (x : Returned). x.length) e);
    buffer = sym (ap (λ (x : Returned). outputs x.number bytes out) e);
    first = p;
    second = q;
  }

  pub short_first : length w₁ < 16384 → Promised back bytes w₁ w₂ out 1 0 0 out w₁ w₂
  short_first h = refuses (ap (λ (x : Bool). cond (x || ltb (length w₂) room) (returns 1 0 0) r) (lt-ltb (length w₁) 16384 h)) (worked_short w₁ (length w₂) h) (worked_other w₂ (length w₁) h)

  pub short_second : length w₂ < 16384 → Promised back bytes w₁ w₂ out 1 0 0 out w₁ w₂
  short_second h =
      refuses (ap (λ (x : Bool). cond x (returns 1 0 0) r) (ap (λ (x : Bool). ltb (length w₁) room || x) (lt-ltb (length w₂) 16384 h) ∙ or_true (ltb (length w₁) room)))
      (worked_other w₁ (length w₂) h) (worked_short w₂ (length w₁) h)

  module _ (h₁ : 16384 ≤ length w₁) (h₂ : 16384 ≤ length w₂) where
    long_both : back ≡ r
    long_both = ap₂ (λ (x y : Bool). cond (x || y) (returns 1 0 0) r) (le-ltb (length w₁) 16384 h₁) (le-ltb (length w₂) 16384 h₂)

    pub long_enough : (number line len : ℕ) (out' p₁ p₂ v₁ v₂ : List ℕ) → Gives r bytes out number line len out'
        → length p₁ ≡ length (take 16384 w₁) → length p₂ ≡ length (take 16384 w₂) → v₁ ≡ cleared (p₁ ++ drop 16384 w₁) → v₂ ≡ cleared (p₂ ++ drop 16384 w₂)
        → Promised back bytes w₁ w₂ out number line len out' v₁ v₂
    long_enough number line len out' p₁ p₂ v₁ v₂ g l₁ l₂ e f = record {
      number_is = g.number_is ∙ sym (ap (λ (x : Returned). x.number) long_both);
      line_is = g.line_is ∙ sym (ap (λ (x : Returned). x.line) long_both);
      length_is = g.length_is ∙ sym (ap (λ (x : Returned). x.length) long_both);
      buffer = g.buffer ∙ ap (λ (x : ℕ). outputs x bytes out) (g.number_is ∙ sym (ap (λ (x : Returned). x.number) long_both));
      first = worked_part w₁ (length w₂) h₁ h₂ p₁ v₁ l₁ e;
      second = worked_part w₂ (length w₁) h₂ h₁ p₂ v₂ l₂ f;
    }
