-- A value found among those that there are, or made.
use Rattle.std.specs.Prelude.{◌≡◌, Bool, cond, not, ◌&&◌, ◌||◌, List, [], ◌∷◌, ◌++◌, ℕ, ◌+◌, ◌/◌, ◌%◌, ◌≤◌, ltb, leb, length, get_or, take, drop}
use Rattle.std.proofs.Math.Option.{Option, none, some}
use Rattle.std.proofs.lemmas.List.Edits.{sets}
use Rattle.words.specs.Log.{part, pushed}
use Rattle.cedar.specs.Canonical.{bit}
use Rattle.cedar.specs.Making.{insert_n, sort_n}
use Rattle.forms.specs.Tags.{BOOL_VALUE, LONG_VALUE, ENTITY_VALUE, SET_VALUE, RECORD_VALUE}
use Rattle.table.specs.Layout.{MADE, TOP, heap, with_row}
use Rattle.value.specs.Lines.{value_lines, place_of}

-- ---- rows made

abbrev pub bool_row : Bool → List ℕ
bool_row b = BOOL_VALUE ∷ bit b ∷ []

-- of a long that is held as its number plus 2^63
abbrev pub long_row : ℕ → List ℕ
long_row w = LONG_VALUE ∷ w / 4294967296 ∷ w % 4294967296 ∷ []

abbrev pub entity_row : ℕ → ℕ → List ℕ
entity_row k t = ENTITY_VALUE ∷ k ∷ t ∷ []

-- ---- found or made

-- whether a row of n words more may be made: fewer than 1,024 were made, and the words have room
unfoldable pub room_for : List ℕ → ℕ → Bool
room_for a n = ltb (get_or a MADE 0) 1024 && (leb heap (get_or a TOP 0) && leb (get_or a TOP 0 + n) 16384)

-- a number that a word holds
unfoldable pub narrow : ℕ → ℕ
narrow v = cond (ltb v 4294967296) v 0

-- the number of row r, which is the next one where r is absent
unfoldable pub number_of : List ℕ → List ℕ → ℕ
number_of a r = narrow (place_of r (value_lines a))

-- row r among the made ones, at the heap's end
unfoldable pub with_made : List ℕ → List ℕ → List ℕ
with_made a r = with_row (sets a (get_or a TOP 0) r) MADE (get_or a TOP 0 + length r)

-- row r is made where it is absent and there is room
unfoldable pub with_value : List ℕ → List ℕ → List ℕ
with_value a r = cond (ltb (place_of r (value_lines a)) (length (value_lines a)) || not (room_for a (length r))) a (with_made a r)

-- what making row r leaves of the words a, and the number that it gives
pub record Made (a r is : List ℕ) (n : ℕ) : Type 0 where
  pub words : is ≡ with_value a r
  pub number : n ≡ number_of a r

-- ---- sets and records from a residual's rows

-- the words of such a row, of which one is a value's number
abbrev pub ROW : ℕ
ROW = 4

abbrev pub SOURCE : ℕ
SOURCE = 1

unfoldable pub values_in : List ℕ → List ℕ
values_in [] = []
values_in (t ∷ []) = []
values_in (t ∷ v ∷ []) = []
values_in (t ∷ v ∷ n ∷ []) = []
values_in (t ∷ v ∷ n ∷ y ∷ l) = v ∷ values_in l

-- the lower of the best so far and x, if x is not below lo
unfoldable pub lower_of : ℕ → Option ℕ → ℕ → Option ℕ
lower_of lo none x = cond (ltb x lo) none (some x)
lower_of lo (some y) x = cond (ltb x lo) (some y) (cond (ltb x y) (some x) (some y))

-- the least number that is not below lo, of the best so far and of the list
unfoldable pub least_of : ℕ → Option ℕ → List ℕ → Option ℕ
least_of lo e [] = e
least_of lo e (x ∷ l) = least_of lo (lower_of lo e x) l

unfoldable pub set_row : List ℕ → List ℕ
set_row rows = SET_VALUE ∷ sort_n (values_in rows)

-- the words from j to p stand one place further on, and x before them
pub record Shifted (b : List ℕ) (j p x : ℕ) (is : List ℕ) : Type 0 where
  pub words : take (p + 1) is ≡ take j b ++ (x ∷ part b j p)
  pub len : length is ≡ length b

-- x stands in its place among the words from at to p, which end at e then
pub record Inserted (b : List ℕ) (at p x : ℕ) (is : List ℕ) (e : ℕ) : Type 0 where
  pub words : take e is ≡ take at b ++ insert_n x (part b at p)
  pub low : at ≤ e
  pub high : e ≤ p + 1
  pub len : length is ≡ length b

-- the texts of a node's row, from its third word on, with the values
unfoldable pub pairs_of : List ℕ → List ℕ → List ℕ
pairs_of [] rows = []
pairs_of (t ∷ []) rows = []
pairs_of (t ∷ n ∷ l) [] = []
pairs_of (t ∷ n ∷ l) (g ∷ []) = []
pairs_of (t ∷ n ∷ l) (g ∷ v ∷ []) = []
pairs_of (t ∷ n ∷ l) (g ∷ v ∷ m ∷ []) = []
pairs_of (t ∷ n ∷ l) (g ∷ v ∷ m ∷ y ∷ rows) = t ∷ v ∷ pairs_of l rows

unfoldable pub record_row : List ℕ → List ℕ → List ℕ
record_row r rows = RECORD_VALUE ∷ pairs_of (drop 2 r) rows

-- a row is written past the end of a log, in the words after it: word by word, while there is room
unfoldable pub push_all : List ℕ → List ℕ → List ℕ
push_all l [] = l
push_all l (x ∷ xs) = push_all (pushed l x) xs

-- what was written of it
unfoldable pub written : List ℕ → List ℕ → List ℕ
written l xs = drop (length l) (push_all l xs)

-- a row was written past the end bt of the log of b, and then made: the log is as it was
pub record MadeBeside (a is : List ℕ) (n bt : ℕ) (b b' r : List ℕ) : Type 0 where
  pub made : Made a (written (take bt b) r) is n
  pub log : take bt b' ≡ take bt b
