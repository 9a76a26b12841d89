-- What the judging of a row leaves.
use Rattle.std.specs.Prelude.{◌≡◌, Bool, cond, List, ℕ, ◌+◌, ◌≤◌, ◌<◌, get_or, drop, Option, Some, None, Result, Ok, Err}
use Rattle.sheet.specs.Forms.{key_of, refs, ENTITY, NODE}
use Rattle.sheet.specs.Typing.{typed}
use Rattle.sheet.specs.Sheet.{found, depth, fault_of, marked}
use Rattle.table.specs.Layout.{TYPEDEPTHS, USES, depths_at, row_in, held}
use Rattle.fits.specs.Fit.{SettledIn, Known}
use Rattle.typing.specs.Links.{Shown}
use Rattle.seen.specs.Seen.{with_seen}
use Rattle.uses.specs.Uses.{mark_of, uses_in}
use Rattle.faults.specs.declared.Fault.{Fault}
use Rattle.judge.specs.declared.Verdict.{Verdict}

-- the depth of a row of key k, if what it refers to is there and the row is new
pub record NewDepth (sheet a b r : List ℕ) (k : ℕ) (d : Option ℕ) : Type 0 where
  pub is : d ≡ cond (found (held sheet a b) k (row_in sheet k r)) (Some (depth (held sheet a b) k (row_in sheet k r))) None

-- whether a row of key k is typed; what is remembered of pairs is used from key entity on
pub record TypedLine (a b b' r : List ℕ) (k : ℕ) (v : Bool) : Type 0 where
  pub is : (sheet c : List ℕ) → SettledIn a → Shown a → v ≡ typed (held sheet a c) r k
  pub known : Known a b'
  pub early : k < ENTITY → b' ≡ b
  pub rest : drop TYPEDEPTHS b' ≡ drop TYPEDEPTHS b

-- number f of the row that words r hold, of key k; where it is 0 the row's depth d, and the nodes that it uses are marked
pub record Judged (sheet a b r b' : List ℕ) (f k d : ℕ) : Type 0 where
  pub number : SettledIn a → Shown a → f ≡ fault_of (held sheet a b) (key_of r) (row_in sheet (key_of r) r)
  pub key : f ≡ 0 → k ≡ key_of r
  pub deep : f ≡ 0 → d ≡ depth (held sheet a b) (key_of r) (row_in sheet (key_of r) r)
  pub uses : f ≡ 0 → uses_in a b' ≡ marked (mark_of (key_of r)) (uses_in a b) (refs NODE (row_in sheet (key_of r) r))
  pub known : Known a b'
  pub early : key_of r < ENTITY → (i : ℕ) → i < TYPEDEPTHS → get_or b' i 0 ≡ get_or b i 0
  pub depths : (i n : ℕ) → TYPEDEPTHS ≤ i → i + n ≤ USES → depths_at b' i n ≡ depths_at b i n
  pub rest : get_or a NODE 0 ≤ 1024 → drop (USES + 1024) b' ≡ drop (USES + 1024) b

-- key and depth of a row that is not refused
abbrev pub key_in : Result Verdict Fault → ℕ
key_in (Ok v) = v.key
key_in (Err f) = 0

abbrev pub depth_in : Result Verdict Fault → ℕ
depth_in (Ok v) = v.depth
depth_in (Err f) = 0

-- the rows seen, with the row that words r hold
abbrev pub seen_at : List ℕ → List ℕ → List ℕ → List ℕ
seen_at sheet m r = with_seen m (row_in sheet (key_of r) r)
