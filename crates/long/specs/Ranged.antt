-- What an answer of the arithmetic stands for: a number of the 64-bit range, or none.
use Rattle.std.specs.Prelude.{Bool, cond, ℕ, leb, ltb, ℤ, Option as Answer, Some, None}
use Rattle.std.proofs.Math.Option.{Option, none, some}
use Rattle.cedar.specs.Evaluate.{in_range}
use Rattle.sheet.specs.Bytes.{half, long_at}

-- the number of an answer; none where the result leaves the range, which is an error in Cedar
abbrev pub number_of : Answer ℕ → Option ℤ
number_of (Some w) = some (long_at w)
number_of None = none

-- a number in the range
unfoldable pub ranged : ℤ → Option ℤ
ranged z = cond (in_range z) (some z) none

-- just one of two words holds a negative number
unfoldable pub opposite : ℕ → ℕ → Bool
opposite a b = cond (ltb a half) (leb half b) (ltb b half)
