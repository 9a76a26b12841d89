-- A call: number, line and length, the answer buffer and the work words, for every input. Document 01, "Returned" and "Order".
use Rattle.std.specs.Prelude.{◌≡◌, cond, ◌||◌, List, ◌++◌, ℕ, zero, suc, ltb, eqb, length, drop, replicate}
use Rattle.sheet.specs.Forms.{Mode}
use Rattle.sheet.specs.Sheet.{read}
use Rattle.sheet.specs.Answer.{answer}

pub record Returned : Type 0 where
  pub number : ℕ
  pub line : ℕ
  pub length : ℕ

abbrev pub returns : ℕ → ℕ → ℕ → Returned
returns n k l = record { number = n; line = k; length = l }

-- the words that each work slice must have, and the bytes that a sheet may have
abbrev pub room : ℕ
room = 16384

-- ---- "Order": each check, and what is returned where it is passed. Every call is made of these.

-- 1: work slices of so many words
abbrev pub lent_then : ℕ → ℕ → Returned → Returned
lent_then work₁ work₂ r = cond (ltb work₁ room || ltb work₂ room) (returns 1 0 0) r

-- 2
abbrev pub short_then : List ℕ → Returned → Returned
short_then sheet r = cond (ltb room (length sheet)) (returns 2 0 0) r

-- 3 to 8: a number and its line
abbrev pub refused_then : ℕ → ℕ → Returned → Returned
refused_then zero k r = r
refused_then (suc n) k r = returns (suc n) k 0

abbrev pub read_then : Mode → List ℕ → Returned → Returned
read_then m sheet r = refused_then (read m sheet).number (read m sheet).line r

-- 2, then 3 to 8
abbrev pub checked_then : Mode → List ℕ → Returned → Returned
checked_then m sheet r = short_then sheet (read_then m sheet r)

-- 10, or accepted: an answer of so many bytes in a buffer of so many. Number 9 has left the table (a value too many, which cannot be made), and is not given again.
abbrev pub fitted : ℕ → ℕ → Returned
fitted out n = cond (ltb out n) (returns 10 0 n) (returns 0 0 n)

-- what is returned, for work slices of so many words and an answer buffer of so many bytes
unfoldable pub returned : Mode → ℕ → ℕ → ℕ → List ℕ → Returned
returned m work₁ work₂ out sheet = lent_then work₁ work₂ (checked_then m sheet (fitted out (length (answer m (read m sheet).state))))

-- ---- what a call leaves

-- "The answer buffer changes only in the bytes written"
abbrev pub over : List ℕ → List ℕ → List ℕ
over bytes buffer = bytes ++ drop (length bytes) buffer

-- an answer's bytes go out with number 0 alone
abbrev pub outputs : ℕ → List ℕ → List ℕ → List ℕ
outputs number bytes buffer = cond (eqb number 0) (over bytes buffer) buffer

unfoldable pub written : Mode → ℕ → ℕ → List ℕ → List ℕ → List ℕ
written m work₁ work₂ buffer sheet = outputs (returned m work₁ work₂ (length buffer) sheet).number (answer m (read m sheet).state) buffer

-- the first n words 0, the rest untouched
abbrev pub zeros : ℕ → List ℕ → List ℕ
zeros n w = replicate n 0 ++ drop n w

-- "After 1 the work slices are untouched, otherwise their first 16,384 words are 0 and the rest untouched": a work slice, and the other's length
unfoldable pub worked : List ℕ → ℕ → List ℕ
worked w other = cond (ltb (length w) room || ltb other room) w (zeros room w)

-- "A sheet is accepted when its run returns number 0", "in whatever work slices and answer buffer it was lent"
pub record Accepted (m : Mode) (sheet : List ℕ) : Type 0 where
  pub work₁ : ℕ
  pub work₂ : ℕ
  pub out : ℕ
  pub zero_number : (returned m work₁ work₂ out sheet).number ≡ 0
