-- The attributes of entities that a long path follows, noted in cells: whose an attribute is, its text plus one, and the value that it leads to.
use Rattle.std.specs.Prelude.{Option as Maybe, Some, ◌≡◌, Bool, false, List, [], ℕ, suc, ◌<◌, ◌+◌, ◌*◌, ◌%◌, length, get_or}
use Rattle.std.proofs.Math.Option.{some}
use Rattle.cedar.specs.Numbered.{entry_of}
use Rattle.sheet.specs.Forms.{at, mark, ENTITY}
use Rattle.sheet.specs.State.{entries_of}
use Rattle.table.specs.Layout.{rows_of}
use Rattle.lookup.specs.Lookups.{value_in, is_entity_at, look_row, look_attr}
use Rattle.lookup.specs.declared.Look.TheVariants.{At as Atˡ}
use Rattle.firsts.specs.declared.Cell.{Cell}
use Rattle.firsts.specs.declared.TheConstants.{BLANK}

-- where a cell has not 0, the text one below it leads from its owner to the value that it has
pub record Tells (a : List ℕ) (d : Cell) : Type 0 where
  pub is : (c : Bool) (u : ℕ) → d.text ≡ suc u → Atˡ d.next ≡ look_attr c a d.owner u

-- each cell does
pub record Firsts (a : List ℕ) (cells : List Cell) : Type 0 where
  pub is : (h : ℕ) → Tells a (get_or cells h BLANK)

-- the place of the cell of value v in the column of text t
abbrev pub cell_of : ℕ → ℕ → ℕ
cell_of v t = t % 8 * 128 + v

-- what is noted for text t of value v, if anything, stands in their cell
pub record Noted (cells : List Cell) (v t : ℕ) (r : Maybe ℕ) : Type 0 where
  pub owner : (x : ℕ) → r ≡ Some x → (get_or cells (cell_of v t) BLANK).owner ≡ v
  pub text : (x : ℕ) → r ≡ Some x → (get_or cells (cell_of v t) BLANK).text ≡ suc t
  pub next : (x : ℕ) → r ≡ Some x → (get_or cells (cell_of v t) BLANK).next ≡ x

-- and it holds where the cells do
pub record Leads (cells : List Cell) (v t : ℕ) (r : Maybe ℕ) : Type 0 where
  pub is : (a : List ℕ) → Firsts a cells → (x : ℕ) → r ≡ Some x → (c : Bool) → Atˡ x ≡ look_attr c a v t

-- what is noted holds as before, if text t leads from value v to x
pub record Kept (v t x : ℕ) (cells cells' : List Cell) : Type 0 where
  pub is : (a : List ℕ) → Firsts a cells → ((c : Bool) → Atˡ x ≡ look_attr c a v t) → Firsts a cells'

-- and if each text of these entries leads from v to its value
pub record KeptAll (l : List ℕ) (v : ℕ) (cells cells' : List Cell) : Type 0 where
  pub is : (a : List ℕ) → Firsts a cells → ((u x : ℕ) → entry_of u (entries_of l) ≡ some x → (c : Bool) → Atˡ x ≡ look_attr c a v u) → Firsts a cells'

-- and if a record m, where it is known, has the attributes of v
pub record Sourced (a : List ℕ) (v m : ℕ) (cells cells' : List Cell) : Type 0 where
  pub is : Firsts a cells → ((m ≡ mark → ⊥) → (c : Bool) (u x : ℕ) → Atˡ x ≡ look_row (value_in a m) u → Atˡ x ≡ look_attr c a v u) → Firsts a cells'

-- of the lines before line i, none is of an entity whose text has 0 in `seen`, and what is noted holds
pub record Entered (a : List ℕ) (i : ℕ) (seen : List ℕ) (cells : List Cell) : Type 0 where
  pub unseen : (k t j : ℕ) → t < length seen → get_or seen t 0 ≡ 0 → j < i → is_entity_at a (at (get_or (rows_of a ENTITY) j []) 0) k t ≡ false
  pub noted : Firsts a cells
