-- What an answer of the readers stands for, and the place of a word among others.
use Rattle.std.specs.Prelude.{◌≡◌, ℕ, suc, ◌+◌, ◌-◌, ◌*◌, ◌^◌, ◌<◌, Bool, true, cond, ◌&&◌, List, [], ◌∷◌, ◌++◌, length, take, drop, nat_le, nat_lt, slice_index, Option, Some, None}
use Rattle.std.proofs.Math.Option as Math
use Rattle.std.proofs.Math.Option.{none, some}
use Rattle.sheet.specs.Bytes.{same}
use Rattle.sheet.specs.Forms.{no_tag}

-- a number that was read, or nothing where the bytes are malformed
abbrev pub Number : Type 0
Number = Option ℕ

-- the number that was read; none, which is refusal 3, where the bytes are malformed
abbrev pub number_of : Number → Math.Option ℕ
number_of (Some n) = some n
number_of None = none

abbrev pub following : Math.Option ℕ → Math.Option ℕ
following none = none
following (some n) = some (suc n)

-- the place of a word among others, counted from 0
abbrev pub placed : List ℕ → List (List ℕ) → Math.Option ℕ
placed w [] = none
placed w (x ∷ l) = cond (same w x) (some 0) (following (placed w l))

-- the form that stands so many places after a key's first; the number past the table's end for none
abbrev pub form_after : ℕ → Math.Option ℕ → ℕ
form_after first none = no_tag
form_after first (some p) = cond (nat_lt p (no_tag - first)) (first + p) no_tag

-- a form by its number; none for the number past the table's end
abbrev pub known_form : ℕ → Option ℕ
known_form t = cond (nat_lt t no_tag) (Some t) None

-- ---- a word as one number

-- bytes as one number, the first the lowest
abbrev pub bytes_of : List ℕ → ℕ
bytes_of [] = 0
bytes_of (x ∷ l) = x + 256 * bytes_of l

abbrev pub are_bytes : List ℕ → Bool
are_bytes [] = true
are_bytes (x ∷ l) = nat_lt x 256 && are_bytes l

-- the bytes of a word and 1 after them
abbrev pub code_of : List ℕ → ℕ
code_of w = bytes_of (w ++ (1 ∷ []))

-- the same of a word of two to seven bytes, 0 for any other
unfoldable pub word_of : List ℕ → ℕ
word_of w = cond (nat_le 2 (length w) && nat_le (length w) 7) (code_of w) 0

-- n bytes from byte i on as one number
pub record Packed (s : List ℕ) (i n r : ℕ) : Type 0 where
  pub is : r ≡ bytes_of (take n (drop i s))
  pub small : r < 256 ^ n
  pub bytes : (j : ℕ) → slice_index s j < 256

-- a word's number, which no other word has
pub record WordRead (s : List ℕ) (r : ℕ) : Type 0 where
  pub is : r ≡ word_of s
  pub only : (w : List ℕ) → are_bytes w ≡ true → r ≡ code_of w → w ≡ s
