-- What marking the used nodes leaves of the words.
use Rattle.std.specs.Prelude.{◌≡◌, Bool, false, cond, List, ℕ, ◌≤◌, eqb, get_or, take, drop}
use Rattle.sheet.specs.Forms.{NODE}
use Rattle.sheet.specs.Sheet.{marked, used_twice}
use Rattle.table.specs.Layout.{USES, SIZES, depths_at}

-- the uses of the nodes that words hold
abbrev pub uses_in : List ℕ → List ℕ → List ℕ
uses_in a b = depths_at b USES (get_or a NODE 0)

-- what a used node is marked with: by a node, which uses it alone, or by a policy
abbrev pub BY_NODE : ℕ
BY_NODE = 1

abbrev pub BY_POLICY : ℕ
BY_POLICY = 2

-- by a line of key k
abbrev pub mark_of : ℕ → ℕ
mark_of k = cond (eqb k NODE) BY_NODE BY_POLICY

-- nodes l are used in turn, marked with x, from words b on: whether a node used one before, and where none did, the words b' with the marks
pub record Marked (x : ℕ) (a b : List ℕ) (l : List ℕ) (b' : List ℕ) (twice : Bool) : Type 0 where
  pub twice_is : twice ≡ used_twice (uses_in a b) l
  pub uses : twice ≡ false → uses_in a b' ≡ marked x (uses_in a b) l
  pub below : take USES b' ≡ take USES b
  pub above : get_or a NODE 0 ≤ 1024 → drop SIZES b' ≡ drop SIZES b
