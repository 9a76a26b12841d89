-- The first values of the sheet are no bools: a search for a bool begins after them.
use Rattle.std.specs.Prelude.{◌≡◌, ℕ, ◌+◌, ◌≤◌, ◌<◌, Bool, not, ◌&&◌, List, eqb, leb, ltb, get_or}
use Rattle.forms.specs.Tags.{BOOL_VALUE}
use Rattle.sheet.specs.Forms.{VALUE}
use Rattle.table.specs.Layout.{TOP, heap, base, limit}

-- the word that says where value i of the sheet begins
abbrev pub value_start : List ℕ → ℕ → ℕ
value_start a i = get_or a (base VALUE + i) 0

-- each of the first `skip` values of the sheet begins in the heap, and its first word is no bool's
pub record Clear (a : List ℕ) (skip : ℕ) : Type 0 where
  pub few : skip ≤ get_or a VALUE 0
  pub most : skip ≤ limit VALUE
  pub low : (i : ℕ) → i < skip → heap ≤ value_start a i
  pub high : (i : ℕ) → i < skip → value_start a i < get_or a TOP 0
  pub other : (i : ℕ) → i < skip → get_or a (value_start a i) 0 ≡ BOOL_VALUE → ⊥

-- whether the row whose beginning word i says begins in the heap, and not as a bool
unfoldable pub clear_at : List ℕ → ℕ → Bool
clear_at a i = (leb heap (get_or a i 0) && ltb (get_or a i 0) (get_or a TOP 0)) && not (eqb (get_or a (get_or a i 0) 0) BOOL_VALUE)
