-- A set of numbers in words, 32 to a word; small numbers, several to a word.
use Rattle.std.specs.Prelude.{◌≡◌, Bool, true, cond, List, [], ◌∷◌, ◌⊎◌, ℕ, ◌+◌, ◌*◌, ◌/◌, ◌%◌, ◌^◌, ◌<◌, length, get_or, set, eqb}
use Rattle.std.specs.Int.Bits.{bit_or}

unfoldable pub bit : ℕ → ℕ → Bool
bit s x = eqb (x / 2 ^ s % 2) 1

unfoldable pub member : List ℕ → ℕ → Bool
member w p = bit (p % 32) (get_or w (p / 32) 0)

-- the bit of p set, if there is a word for it
unfoldable pub added : List ℕ → ℕ → List ℕ
added w p = cond (member w p) w (set w (p / 32) (get_or w (p / 32) 0 + 2 ^ (p % 32)))

-- from w to v p has joined, if there is a word for it, and nothing else has joined or left
pub record Added (p : ℕ) (w v : List ℕ) : Type 0 where
  pub joined : (q : ℕ) → member v q ≡ true → (member w q ≡ true) ⊎ (q ≡ p)
  pub kept : (q : ℕ) → member w q ≡ true → member v q ≡ true
  pub here : p / 32 < length w → member v p ≡ true

-- the union of two sets; what w has more stays
unfoldable pub joined : List ℕ → List ℕ → List ℕ
joined [] v = []
joined (x ∷ w) [] = x ∷ w
joined (x ∷ w) (y ∷ v) = bit_or x y ∷ joined w v

-- digit i, modulo 16, of a word of sixteen hexadecimal digits, the lowest first
unfoldable pub digit_of : ℕ → ℕ → ℕ
digit_of w i = w / 2 ^ (i % 16 * 4) % 16

-- byte i, modulo 4, of a word of four bytes, the lowest first
unfoldable pub byte_of : ℕ → ℕ → ℕ
byte_of w i = w / 2 ^ (i % 4 * 8) % 256
