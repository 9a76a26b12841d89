-- The order of trees of numbers is strict and total.
use mathlib.Core.Path.{◌≡◌, refl, sym, ◌∙◌, ap, ap₂, subst}
use Prim.Native.Nat.compare
use Prim.Native.Nat.{ℕ, zero, suc, ◌<◌, suc-le-suc, compare, Ordering}
use native.Mathlib.Nat.{le_of_suc-le-suc}
use native.Mathlib.Omega.{arith}
use lib.Dec.{compare_is_eq}
use Rattle.cedar.proofs.Tools.{eqb_true}
use Rattle.cedar.specs.Order.{node, Tree, leaf, and_then, cmp}

abbrev pub flip : Ordering → Ordering
flip Ordering.lt = Ordering.gt
flip Ordering.eq = Ordering.eq
flip Ordering.gt = Ordering.lt

-- an ordering decides which of three it is
IsLt : Ordering → Type 0
IsLt Ordering.lt = Unit {0}
IsLt Ordering.eq = ⊥
IsLt Ordering.gt = ⊥

pub lt≢eq : {X : Type 0} → Ordering.lt ≡ Ordering.eq → X
unfolding IsLt
lt≢eq e = absurd (subst IsLt e tt)

pub lt≢gt : {X : Type 0} → Ordering.lt ≡ Ordering.gt → X
unfolding IsLt
lt≢gt e = absurd (subst IsLt e tt)

pub gt≢eq : {X : Type 0} → Ordering.gt ≡ Ordering.eq → X
gt≢eq e = lt≢eq (ap flip e)

-- numbers

compare_flip : (m n : ℕ) → compare n m ≡ flip (compare m n)
compare_flip zero zero = rw compare.zero-zero
compare_flip zero (suc n) = rw (compare.suc-zero, compare.zero-suc)
compare_flip (suc m) zero = rw (compare.zero-suc, compare.suc-zero)
compare_flip (suc m) (suc n) = rw (compare.suc-suc n m, compare.suc-suc m n) (compare_flip m n)

pub compare_eq : (m n : ℕ) → compare m n ≡ Ordering.eq → m ≡ n
compare_eq m n e = eqb_true m n (ap compare_is_eq e)

compare_refl : (n : ℕ) → compare n n ≡ Ordering.eq
compare_refl zero = compare.zero-zero
compare_refl (suc n) = rw compare.suc-suc (compare_refl n)

pub compare_lt : (m n : ℕ) → compare m n ≡ Ordering.lt → m < n
compare_lt zero zero e = lt≢eq (sym e ∙ compare.zero-zero)
compare_lt zero (suc n) e = omega arith
compare_lt (suc m) zero e = lt≢gt (sym e ∙ compare.suc-zero m)
compare_lt (suc m) (suc n) e = suc-le-suc (compare_lt m n (sym (compare.suc-suc m n) ∙ e))

pub compare_gt : (m n : ℕ) → compare m n ≡ Ordering.gt → n < m
compare_gt m n e = compare_lt n m (compare_flip m n ∙ ap flip e)

lt_compare : (m n : ℕ) → m < n → compare m n ≡ Ordering.lt
lt_compare zero zero h = absurd (omega arith)
lt_compare zero (suc n) h = compare.zero-suc n
lt_compare (suc m) zero h = absurd (omega arith)
lt_compare (suc m) (suc n) h = compare.suc-suc m n ∙ lt_compare m n (le_of_suc-le-suc h)

compare_trans : (l m n : ℕ) → compare l m ≡ Ordering.lt → compare m n ≡ Ordering.lt → compare l n ≡ Ordering.lt
compare_trans l m n e f = let p = compare_lt l m e in let q = compare_lt m n f in lt_compare l n (omega arith)

-- trees

flip_then : (o q : Ordering) → flip (and_then o q) ≡ and_then (flip o) (flip q)
flip_then Ordering.lt q = refl
flip_then Ordering.eq q = refl
flip_then Ordering.gt q = refl

pub cmp_flip : (a b : Tree) → cmp b a ≡ flip (cmp a b)
cmp_flip (leaf m) (leaf n) = compare_flip m n
cmp_flip (leaf m) (node c d) = refl
cmp_flip (node a b) (leaf n) = refl
cmp_flip (node a b) (node c d) = ap₂ and_then (cmp_flip a c) (cmp_flip b d) ∙ sym (flip_then (cmp a c) (cmp b d))

pub cmp_refl : (a : Tree) → cmp a a ≡ Ordering.eq
cmp_refl (leaf n) = compare_refl n
cmp_refl (node a b) = rw (cmp_refl a) (cmp_refl b)

both_eq : (o q : Ordering) → and_then o q ≡ Ordering.eq → (o ≡ Ordering.eq) × (q ≡ Ordering.eq)
both_eq Ordering.lt q e = lt≢eq e
both_eq Ordering.eq q e = (refl, e)
both_eq Ordering.gt q e = gt≢eq e

pub cmp_eq : (a b : Tree) → cmp a b ≡ Ordering.eq → a ≡ b
cmp_eq (leaf m) (leaf n) e = ap leaf (compare_eq m n e)
cmp_eq (leaf m) (node c d) e = lt≢eq e
cmp_eq (node a b) (leaf n) e = gt≢eq e
cmp_eq (node a b) (node c d) e = let (p, q) = both_eq (cmp a c) (cmp b d) e in ap₂ node (cmp_eq a c p) (cmp_eq b d q)

-- and_then is less: the first is, or it is equal and the second is
data Lt2 : Ordering → Ordering → Type 0 where
  first : {q : Ordering} → Lt2 Ordering.lt q
  second : {q : Ordering} → q ≡ Ordering.lt → Lt2 Ordering.eq q

lt2 : (o q : Ordering) → and_then o q ≡ Ordering.lt → Lt2 o q
lt2 Ordering.lt q e = first
lt2 Ordering.eq q e = second e
lt2 Ordering.gt q e = lt≢gt (sym e)

trans_node : (x y a b c d : Tree) → (cmp x a ≡ Ordering.lt → cmp a c ≡ Ordering.lt → cmp x c ≡ Ordering.lt) → (cmp y b ≡ Ordering.lt → cmp b d ≡ Ordering.lt → cmp y d ≡ Ordering.lt)
    → {o q : Ordering} → cmp x a ≡ o → cmp a c ≡ q → Lt2 o (cmp y b) → Lt2 q (cmp b d) → and_then (cmp x c) (cmp y d) ≡ Ordering.lt
trans_node x y a b c d i j g h first first = rw (i g h)
trans_node x y a b c d i j g h first (second s) = rw (subst (λ z. cmp x z ≡ Ordering.lt) (cmp_eq a c h) g)
trans_node x y a b c d i j g h (second r) first = rw (subst (λ z. cmp z c ≡ Ordering.lt) (sym (cmp_eq x a g)) h)
trans_node x y a b c d i j g h (second r) (second s) = rw (subst (λ z. cmp z c ≡ Ordering.eq) (sym (cmp_eq x a g)) h, j r s)

pub cmp_trans : (a b c : Tree) → cmp a b ≡ Ordering.lt → cmp b c ≡ Ordering.lt → cmp a c ≡ Ordering.lt
cmp_trans (leaf l) (leaf m) (leaf n) e f = compare_trans l m n e f
cmp_trans (leaf l) (leaf m) (node c d) e f = refl
cmp_trans (leaf l) (node a b) (leaf n) e f = lt≢gt (sym f)
cmp_trans (leaf l) (node a b) (node c d) e f = refl
cmp_trans (node x y) (leaf m) c e f = lt≢gt (sym e)
cmp_trans (node x y) (node a b) (leaf n) e f = lt≢gt (sym f)
cmp_trans (node x y) (node a b) (node c d) e f = trans_node x y a b c d (λ p q. cmp_trans x a c p q) (λ p q. cmp_trans y b d p q) refl refl (lt2 (cmp x a) (cmp y b) e) (lt2 (cmp a c) (cmp b d) f)
