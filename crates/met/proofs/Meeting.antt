-- The functions of `met` do what their definitions say. Assumes nothing.
use mathlib.Core.Path.{◌≡◌, refl, subst}
use mathlib.Core.Bool.{Bool, true, false, not}
use mathlib.Core.List.{List}
use Prim.Native.Nat.{ℕ, zero, suc, ◌+◌, ◌<◌, ◌≤◌}
use native.Mathlib.Omega.{arith}
use borrow.Author.Tests.{eqb-true, eqb-false, ltb-true, ltb-false, not-false}
use lib.Dec.{ltb, eqb}
use lib.Bits.{bit_or, and_le_l, and_le_r, or_add_and}
use lib.ListN.{length, get_or}
use Rattle.met.specs.Noting.{RUN, Run, RunMet, Skipped}

pub not_none : (x : ℕ) → (x ≡ 0 → ⊥) → 1 ≤ x
not_none zero f = absurd (f refl)
not_none (suc x) f = omega arith

-- what holds of each of so many words of a list
run_of : (p : ℕ → Type 0) (l : List ℕ) (i : ℕ) → p (get_or l i 0) → p (get_or l (i + 1) 0) → p (get_or l (i + 2) 0) → p (get_or l (i + 3) 0) → p (get_or l (i + 4) 0) → p (get_or l (i + 5) 0) → p (get_or l (i + 6) 0) → p (get_or l (i + 7) 0) → Run p l i
run_of p l i a b c d e f g h k m n = on i a m (λ z. on (i + 1) b (omega (arith, z)) (λ z. on (i + 2) c (omega (arith, z)) (λ z. on (i + 3) d (omega (arith, z)) (λ z. on (i + 4) e (omega (arith, z)) (λ z. on (i + 5) f (omega (arith, z)) (λ z. on (i + 6) g (omega (arith, z)) (λ z. on (i + 7) h (omega (arith, z)) (λ z. absurd (omega (arith, n, z))))))))))
  where
    on : (j : ℕ) → p (get_or l j 0) → j ≤ k → (j < k → p (get_or l k 0)) → p (get_or l k 0)
    on j x y f = go (eqb j k) refl
      where
        go : (t : Bool) → eqb j k ≡ t → p (get_or l k 0)
        go true q = subst (λ (n : ℕ). p (get_or l n 0)) (eqb-true j k q) x
        go false q = let z = eqb-false j k q in f (omega (arith, y, z))

-- neither of two is greater than their bits together
either_most : (x y : ℕ) → (x ≤ bit_or x y) × (y ≤ bit_or x y)
either_most x y = let a = or_add_and x y in let b = and_le_r x y in let c = and_le_l x y in (omega (arith, a, b), omega (arith, a, c))

-- of eight numbers none is greater than their bits together
module _ (a b c d e f g h : ℕ) where
  bits_most : (r : ℕ) → r ≡ bit_or (bit_or (bit_or (bit_or (bit_or (bit_or (bit_or a b) c) d) e) f) g) h → (a ≤ r) × (b ≤ r) × (c ≤ r) × (d ≤ r) × (e ≤ r) × (f ≤ r) × (g ≤ r) × (h ≤ r)
  bits_most r z =
      let (p₁, q₁) = either_most a b in let (p₂, q₂) = either_most (bit_or a b) c in let (p₃, q₃) = either_most (bit_or (bit_or a b) c) d in
      let (p₄, q₄) = either_most (bit_or (bit_or (bit_or a b) c) d) e in let (p₅, q₅) = either_most (bit_or (bit_or (bit_or (bit_or a b) c) d) e) f in
      let (p₆, q₆) = either_most (bit_or (bit_or (bit_or (bit_or (bit_or a b) c) d) e) f) g in let (p₇, q₇) = either_most (bit_or (bit_or (bit_or (bit_or (bit_or (bit_or a b) c) d) e) f) g) h in
      (omega (arith, z, p₁, p₂, p₃, p₄, p₅, p₆, p₇), omega (arith, z, q₁, p₂, p₃, p₄, p₅, p₆, p₇), omega (arith, z, q₂, p₃, p₄, p₅, p₆, p₇), omega (arith, z, q₃, p₄, p₅, p₆, p₇), omega (arith, z, q₄, p₅, p₆, p₇), omega (arith, z, q₅, p₆, p₇), omega (arith, z, q₆, p₇), omega (arith, z, q₇))

module _ (l : List ℕ) (i : ℕ) where
  pub run_bits : Run (λ x. x ≤ bit_or (bit_or (bit_or (bit_or (bit_or (bit_or (bit_or (get_or l i 0) (get_or l (i + 1) 0)) (get_or l (i + 2) 0)) (get_or l (i + 3) 0)) (get_or l (i + 4) 0)) (get_or l (i + 5) 0)) (get_or l (i + 6) 0)) (get_or l (i + 7) 0)) l i
  run_bits = let (a, b, c, d, e, f, g, h) = bits_most (get_or l i 0) (get_or l (i + 1) 0) (get_or l (i + 2) 0) (get_or l (i + 3) 0) (get_or l (i + 4) 0) (get_or l (i + 5) 0) (get_or l (i + 6) 0) (get_or l (i + 7) 0) (bit_or (bit_or (bit_or (bit_or (bit_or (bit_or (bit_or (get_or l i 0) (get_or l (i + 1) 0)) (get_or l (i + 2) 0)) (get_or l (i + 3) 0)) (get_or l (i + 4) 0)) (get_or l (i + 5) 0)) (get_or l (i + 6) 0)) (get_or l (i + 7) 0)) refl in run_of (λ x. x ≤ bit_or (bit_or (bit_or (bit_or (bit_or (bit_or (bit_or (get_or l i 0) (get_or l (i + 1) 0)) (get_or l (i + 2) 0)) (get_or l (i + 3) 0)) (get_or l (i + 4) 0)) (get_or l (i + 5) 0)) (get_or l (i + 6) 0)) (get_or l (i + 7) 0)) l i a b c d e f g h

pub skip_start : (w l : List ℕ) (i : ℕ) → i ≤ length l → Skipped w l i i
skip_start w l i h = record { more = omega arith; near = h; is = λ k a b. absurd (omega (arith, a, b)) }

pub skip_on : (w l : List ℕ) (i j : ℕ) → Skipped w l i j → j + RUN ≤ length l → (b : Bool) → RunMet w l j b → not b ≡ false → Skipped w l i (j + RUN)
skip_on w l i j c h b f e = record { more = let z = c.more in omega (arith, z); near = h; is = λ k a g. each k a g (ltb k j) refl }
  where
    each : (k : ℕ) → i ≤ k → k < j + RUN → (d : Bool) → ltb k j ≡ d → 1 ≤ get_or w (get_or l k 0) 0
    each k a g true q = c.is k a (ltb-true k j q)
    each k a g false q = f.is (not-false b e) k (ltb-false k j q) g
