-- Whether a product of two longs leaves the 64-bit range, by cases on the signs of the two factors: "zero first, then the smallest number (in range only
-- beside 1), then the four pairs of signs". The tests divide, toward zero, and never multiply.
use Rattle.std.specs.Prelude.{Bool, true, false, not, cond, ◌||◌, ◌&&◌, eqb, ℤ, pos, negsuc, neg_ℤ}
use Rattle.std.specs.Int.Signed.{lt_z, quot_z}
use Rattle.long.specs.declared.Case as C

-- the ends of the range: -2^63 and 2^63 - 1
abbrev pub least : ℤ
least = negsuc 9223372036854775807

abbrev pub greatest : ℤ
greatest = pos 9223372036854775807

abbrev pub eq_z : ℤ → ℤ → Bool
eq_z (pos m) (pos n) = eqb m n
eq_z (pos m) (negsuc n) = false
eq_z (negsuc m) (pos n) = false
eq_z (negsuc m) (negsuc n) = eqb m n

abbrev pub positive : ℤ → Bool
positive a = lt_z (pos 0) a

abbrev pub negative : ℤ → Bool
negative a = lt_z a (pos 0)

-- one of the two factors is z
abbrev pub among : ℤ → ℤ → ℤ → Bool
among z a b = eq_z a z || eq_z b z

-- the cases, in their order
pub data Case : Type 0 where
  with_zero : Case
  with_smallest : Case
  both_positive : Case
  positive_negative : Case
  negative_positive : Case
  both_negative : Case

-- neither zero nor the smallest number is a factor
abbrev pub plain : ℤ → ℤ → Bool
plain a b = not (among (pos 0) a b) && not (among least a b)

-- where each case holds: those before it do not
abbrev pub holds : Case → ℤ → ℤ → Bool
holds with_zero a b = among (pos 0) a b
holds with_smallest a b = not (among (pos 0) a b) && among least a b
holds both_positive a b = plain a b && (positive a && positive b)
holds positive_negative a b = plain a b && (positive a && negative b)
holds negative_positive a b = plain a b && (negative a && positive b)
holds both_negative a b = plain a b && (negative a && negative b)

-- the case of a pair
abbrev pub by_signs : Bool → Bool → Case
by_signs true true = both_positive
by_signs true false = positive_negative
by_signs false true = negative_positive
by_signs false false = both_negative

unfoldable pub case_of : ℤ → ℤ → Case
case_of a b = cond (among (pos 0) a b) with_zero (cond (among least a b) with_smallest (by_signs (positive a) (positive b)))

-- the case's test: whether the product is outside the range. With MAX and MIN for the ends: never; unless 1 is the other; a > MAX / b; b < MIN / a;
-- a < MIN / b; -a > MAX / -b
abbrev pub outside : Case → ℤ → ℤ → Bool
outside with_zero a b = false
outside with_smallest a b = not (among (pos 1) a b)
outside both_positive a b = lt_z (quot_z greatest b) a
outside positive_negative a b = lt_z b (quot_z least a)
outside negative_positive a b = lt_z a (quot_z least b)
outside both_negative a b = lt_z (quot_z greatest (neg_ℤ b)) (neg_ℤ a)

-- the code's cases
abbrev pub the_case : C.Case → Case
the_case C.TheVariants.WithZero = with_zero
the_case C.TheVariants.WithSmallest = with_smallest
the_case C.TheVariants.BothPositive = both_positive
the_case C.TheVariants.PositiveNegative = positive_negative
the_case C.TheVariants.NegativePositive = negative_positive
the_case C.TheVariants.BothNegative = both_negative
