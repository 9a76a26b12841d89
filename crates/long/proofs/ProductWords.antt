-- Products by sign in words: the tests of the code are the tests of the cases. Assumes nothing.
use Prim.Native.Nat.{ℕ, ◌/◌, ◌<◌}
use mathlib.Core.Path.{◌≡◌, sym, ◌∙◌, ap, ap₂}
use mathlib.Core.Bool.{Bool, true, false}
use borrow.Author.Tests.{not-true, not-false}
use lib.Dec.{ltb}
use lib.IntN.{ℤ, pos, nat_abs, ◌*ℤ◌}
use Rattle.cedar.specs.Evaluate.{in_range}
use Rattle.sheet.specs.Bytes.{long_at}
use Rattle.long.specs.Products.{least, positive, among, Case, with_zero, with_smallest, both_positive, positive_negative, negative_positive, both_negative, holds, by_signs, case_of, outside, the_case}
use Rattle.long.specs.Ranged.{number_of, ranged}
use Rattle.long.specs.declared.Case as C
use Rattle.std.specs.Prelude.{None}
use Rattle.long.proofs.Longs.{answer_outside}
use Rattle.long.proofs.Products.{case_zero, case_smallest, case_signs, in_case, Up, Down, up_sized, down_sized, signs_pp, signs_pn, signs_np, signs_nn, size_pp, size_pn, size_np, size_nn, outside_exact}

-- what the test of the case says of the product
module _ (a b : ℕ) where
  pub product_out : (t : Bool) → t ≡ outside (case_of (long_at a) (long_at b)) (long_at a) (long_at b) → t ≡ true → number_of None ≡ ranged (long_at a *ℤ long_at b)
  product_out t e h =
      answer_outside (long_at a *ℤ long_at b) (not-true (in_range (long_at a *ℤ long_at b)) (sym (outside_exact (long_at a) (long_at b)) ∙ sym e ∙ h))

  pub product_inside : (t : Bool) → t ≡ outside (case_of (long_at a) (long_at b)) (long_at a) (long_at b) → t ≡ false → in_range (long_at a *ℤ long_at b) ≡ true
  product_inside t e h = not-false (in_range (long_at a *ℤ long_at b)) (sym (outside_exact (long_at a) (long_at b)) ∙ sym e ∙ h)

module _ (a b : ℕ) where
  module _ (t : Bool) (et : t ≡ among (pos 0) (long_at a) (long_at b)) where
    pub first_case : t ≡ true → with_zero ≡ case_of (long_at a) (long_at b)
    first_case e = sym (case_zero (long_at a) (long_at b) (sym et ∙ e))

    module _ (u : Bool) (eu : u ≡ among least (long_at a) (long_at b)) where
      pub second_case : t ≡ false → u ≡ true → with_smallest ≡ case_of (long_at a) (long_at b)
      second_case e f = sym (case_smallest (long_at a) (long_at b) (sym et ∙ e) (sym eu ∙ f))

      pub later_case : (k : C.Case) → the_case k ≡ by_signs (positive (long_at a)) (positive (long_at b)) → t ≡ false → u ≡ false → the_case k ≡ case_of (long_at a) (long_at b)
      later_case k s e f = s ∙ sym (case_signs (long_at a) (long_at b) (sym et ∙ e) (sym eu ∙ f))

-- the test of a case, from the sizes of the factors
module _ (a b : ℤ) (m n : ℕ) (em : m ≡ nat_abs a) (en : n ≡ nat_abs b) (k : C.Case) (ek : the_case k ≡ case_of a b) where
  module _ (c : Case) (e : the_case k ≡ c) where
    held : holds c a b ≡ true
    held = ap (λ (x : Case). holds x a b) (sym e ∙ ek) ∙ in_case a b

    its_test : outside c a b ≡ outside (case_of a b) a b
    its_test = ap (λ (x : Case). outside x a b) (sym e ∙ ek)

  pub pp_test : k ≡ C.TheVariants.BothPositive → ltb (9223372036854775807 / n) m ≡ outside (case_of a b) a b
  pp_test h =
      let s : Up a × Up b = signs_pp a b (held both_positive (ap the_case h)) in
      ap₂ (λ (x y : ℕ). ltb (9223372036854775807 / y) x) em en ∙ sym (size_pp s.0 s.1) ∙ its_test both_positive (ap the_case h)

  pub pp_divides : k ≡ C.TheVariants.BothPositive → 0 < n
  pp_divides h = rw en (up_sized (signs_pp a b (held both_positive (ap the_case h))).1)

  pub pn_test : k ≡ C.TheVariants.PositiveNegative → ltb (9223372036854775808 / m) n ≡ outside (case_of a b) a b
  pn_test h =
      let s : Up a × Down b = signs_pn a b (held positive_negative (ap the_case h)) in
      ap₂ (λ (x y : ℕ). ltb (9223372036854775808 / x) y) em en ∙ sym (size_pn s.0 s.1) ∙ its_test positive_negative (ap the_case h)

  pub pn_divides : k ≡ C.TheVariants.PositiveNegative → 0 < m
  pn_divides h = rw em (up_sized (signs_pn a b (held positive_negative (ap the_case h))).0)

  pub np_test : k ≡ C.TheVariants.NegativePositive → ltb (9223372036854775808 / n) m ≡ outside (case_of a b) a b
  np_test h =
      let s : Down a × Up b = signs_np a b (held negative_positive (ap the_case h)) in
      ap₂ (λ (x y : ℕ). ltb (9223372036854775808 / y) x) em en ∙ sym (size_np s.0 s.1) ∙ its_test negative_positive (ap the_case h)

  pub np_divides : k ≡ C.TheVariants.NegativePositive → 0 < n
  np_divides h = rw en (up_sized (signs_np a b (held negative_positive (ap the_case h))).1)

  pub nn_test : k ≡ C.TheVariants.BothNegative → ltb (9223372036854775807 / n) m ≡ outside (case_of a b) a b
  nn_test h =
      let s : Down a × Down b = signs_nn a b (held both_negative (ap the_case h)) in
      ap₂ (λ (x y : ℕ). ltb (9223372036854775807 / y) x) em en ∙ sym (size_nn s.0 s.1) ∙ its_test both_negative (ap the_case h)

  pub nn_divides : k ≡ C.TheVariants.BothNegative → 0 < n
  nn_divides h = rw en (down_sized (signs_nn a b (held both_negative (ap the_case h))).1)
