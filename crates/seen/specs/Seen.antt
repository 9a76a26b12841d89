-- Rows that must differ: a set of numbers has that of each such row, so a row whose number it lacks is new.
use Rattle.std.specs.Prelude.{◌≡◌, Bool, true, false, cond, not, ◌&&◌, ◌||◌, List, [], ◌∷◌, ℕ, ◌+◌, ◌*◌, ◌%◌, ◌≤◌, eqb, length}
use Rattle.words.specs.Bits.{member, added}
use Rattle.sheet.specs.Forms.{tag, items, key_of, TEXT, TYPE, VALUE}
use Rattle.sheet.specs.State.{State, lines_of}
use Rattle.sheet.specs.Sheet.{among}

-- the words of a set of the numbers that rows go by, and how many numbers there are
abbrev pub PLACE_WORDS : ℕ
PLACE_WORDS = 512

abbrev pub PLACES : ℕ
PLACES = 32 * PLACE_WORDS

-- ---- the number of a row

unfoldable pub mixed : ℕ → ℕ → ℕ
mixed sum x = (sum * 33 + x) % 4294967296

unfoldable pub mixed_on : ℕ → List ℕ → ℕ
mixed_on sum [] = sum
mixed_on sum (x ∷ l) = mixed_on (mixed sum x) l

unfoldable pub place_of : List ℕ → ℕ
place_of r = mixed_on (tag r) (items r) % PLACES

-- ---- rows seen

-- whether the rows of key k must differ in a word: texts, types and values
unfoldable pub differ : ℕ → Bool
differ k = eqb k TEXT || (eqb k TYPE || eqb k VALUE)

-- whether a row must differ and the set lacks its number
unfoldable pub unseen : List ℕ → List ℕ → Bool
unseen m r = differ (key_of r) && not (member m (place_of r))

-- the set with its number
unfoldable pub with_seen : List ℕ → List ℕ → List ℕ
with_seen m r = cond (differ (key_of r)) (added m (place_of r)) m

-- the set has the number of each row that must differ
pub record Seen (s : State) (m : List ℕ) : Type 0 where
  pub long : PLACE_WORDS ≤ length m
  pub has : (k : ℕ) (r : List ℕ) → differ k ≡ true → among r (lines_of s k) ≡ true → member m (place_of r) ≡ true

-- where `new` is true, a row is not among these
pub record Unlike (r : List ℕ) (rows : List (List ℕ)) (new : Bool) : Type 0 where
  pub none : new ≡ true → among r rows ≡ false
