-- What has been read of a sheet: the rows of its lines, by key.
use Rattle.std.specs.Prelude.{Bool, false, List, [], ◌∷◌, ℕ, ◌+◌, ◌-◌, ◌*◌, eqb, length, get_or, take, drop, replicate}
use Rattle.sheet.specs.Bytes.{long_at}
use Rattle.sheet.specs.Forms.{no_key, tag, items, at, first_type, first_value, TYPE, VALUE, ENTITY}
use Rattle.cedar.specs.Rows.{Entries, stop, entry, Row, rbool, rlong, rtext, rent, rset, rrec}

-- the lines of each key, in the keys' order, as rows; their depths; and for each node 1 where it is used, else 0
pub record State : Type 0 where
  pub lines : List (List (List ℕ))
  pub depths : List (List ℕ)
  pub used : List ℕ

abbrev pub empty : State
empty = record { lines = replicate no_key []; depths = replicate no_key []; used = [] }

-- the lines of key k, how many there are, and number n of them
abbrev pub lines_of : State → ℕ → List (List ℕ)
lines_of s k = get_or s.lines k []

abbrev pub count : State → ℕ → ℕ
count s k = length (lines_of s k)

abbrev pub line_at : State → ℕ → ℕ → List ℕ
line_at s k n = get_or (lines_of s k) n []

-- the entity lines: "`entity=` .. 128"; no reading reaches a state with more (proofs/Ancestors, `all_lines`), so nothing is cut
abbrev pub entity_lines : State → List (List ℕ)
entity_lines s = take 128 (lines_of s ENTITY)

abbrev pub depths_of : State → ℕ → List ℕ
depths_of s k = get_or s.depths k []

abbrev pub lengths : List (List (List ℕ)) → List ℕ
lengths [] = []
lengths (l ∷ ls) = length l ∷ lengths ls

-- how many lines each key has, and how many stand before key k
abbrev pub counts : State → List ℕ
counts s = lengths s.lines

abbrev pub sum : List ℕ → ℕ
sum [] = 0
sum (x ∷ l) = x + sum l

abbrev pub before : State → ℕ → ℕ
before s k = sum (take k (counts s))

-- ---- types and values by their constructors, which stand in the table's order

-- a declared attribute: text, required, type number
pub record Declared : Type 0 where
  pub text : ℕ
  pub required : Bool
  pub type : ℕ

pub data TypeRow : Type 0 where
  bool long string : TypeRow
  entity : ℕ → List ℕ → TypeRow
  set' : ℕ → TypeRow
  record' : List Declared → TypeRow

abbrev pub declareds : List ℕ → List Declared
declareds [] = []
declareds (t ∷ []) = []
declareds (t ∷ r ∷ []) = []
declareds (t ∷ r ∷ y ∷ l) = record { text = t; required = eqb r 1; type = y } ∷ declareds l

abbrev pub type_row : List ℕ → TypeRow
type_row r = get_or (bool ∷ long ∷ string ∷ entity (at r 0) (drop 1 (items r)) ∷ set' (at r 0) ∷ record' (declareds (items r)) ∷ []) (tag r - first_type) bool

abbrev pub entries_of : List ℕ → Entries
entries_of [] = stop
entries_of (t ∷ []) = stop
entries_of (t ∷ v ∷ l) = entry t v (entries_of l)

abbrev pub value_row : List ℕ → Row
value_row r = get_or (rbool (eqb (at r 0) 1) ∷ rlong (long_at (at r 0 * 4294967296 + at r 1)) ∷ rtext (at r 0) ∷ rent (at r 0) (at r 1) ∷ rset (items r) ∷ rrec (entries_of (items r)) ∷ [])
    (tag r - first_value) (rbool false)

abbrev pub type_at : State → ℕ → TypeRow
type_at s n = type_row (line_at s TYPE n)

abbrev pub value_at : State → ℕ → Row
value_at s n = value_row (line_at s VALUE n)
