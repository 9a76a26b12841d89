-- Value rows: a `value=` line with the numbers of earlier rows in place of contents.
use Rattle.std.specs.Prelude.{Bool, List, [], ◌∷◌, ℕ, ℤ}
use Rattle.cedar.specs.Value.{Value, vbool, vlong, vtext, vent, vset, vrec, Values, vnil, vcons, Fields, fnil, fcons}
use Rattle.cedar.specs.Canonical.{same}

-- "`record,t,v,..`": texts with value numbers.
pub data Entries : Type 0 where
  stop : Entries
  entry : ℕ → ℕ → Entries → Entries

pub data Row : Type 0 where
  rbool : Bool → Row
  rlong : ℤ → Row
  rtext : ℕ → Row
  rent : ℕ → ℕ → Row
  rset : List ℕ → Row
  rrec : Entries → Row

-- Equality of rows: a row is written as a value, its numbers as texts, and values are compared.
abbrev pub nums_v : List ℕ → Values
nums_v [] = vnil
nums_v (n ∷ l) = vcons (vtext n) (nums_v l)

abbrev pub entries_v : Entries → Fields
entries_v stop = fnil
entries_v (entry t n e) = fcons t (vtext n) (entries_v e)

abbrev pub row_v : Row → Value
row_v (rbool b) = vbool b
row_v (rlong n) = vlong n
row_v (rtext t) = vtext t
row_v (rent k t) = vent k t
row_v (rset l) = vset (nums_v l)
row_v (rrec e) = vrec (entries_v e)

abbrev pub same_row : Row → Row → Bool
same_row q r = same (row_v q) (row_v r)
