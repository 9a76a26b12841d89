-- What the walk over a row's items finds.
use Rattle.std.specs.Prelude.{◌≡◌, Bool, cond, List, [], ℕ, ◌≤◌, ◌<◌, length, Option, Some, None}
use Rattle.sheet.specs.Forms.{Slot, tag, items, POLICY}
use Rattle.sheet.specs.Sheet.{there_is, all_there, depth}
use Rattle.table.specs.Layout.{held}
use Rattle.forms.specs.Rows.{code}
use Rattle.forms.specs.Tags.{LIT, AND, IF, GET, HASPATH}
use Rattle.depths.specs.Codes.{key_in}

-- whether item x is there, at a place of code c
pub record ThereAs (a : List ℕ) (c x : ℕ) (v : Bool) : Type 0 where
  pub is : (s : Slot) → (c ≡ code s) × (key_in s ≤ POLICY) → v ≡ there_is (held [] a []) s x

-- the depth of a row of key k, if the lines that it refers to are there
unfoldable pub there_depth : List ℕ → List ℕ → ℕ → List ℕ → Option ℕ
there_depth a b k r = cond (all_there (held [] a []) (tag r) 0 (items r)) (Some (depth (held [] a b) k r)) None

-- a row of a node that has a type and works on two nodes
pub record OnTwo (r : List ℕ) : Type 0 where
  pub long : length r ≡ 4
  pub low : AND ≤ tag r
  pub high : tag r < IF

-- a row of a node that has a type, works on one node and has a text
pub record OnOne (r : List ℕ) : Type 0 where
  pub long : length r ≡ 4
  pub low : GET ≤ tag r
  pub high : tag r < HASPATH

-- a row of a node that has a type and one item more, and works on no node
pub record OnNone (r : List ℕ) : Type 0 where
  pub long : length r ≡ 3
  pub low : LIT ≤ tag r
  pub high : tag r < AND
