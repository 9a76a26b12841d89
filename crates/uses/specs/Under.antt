-- What is noted of the nodes that words hold: how many nodes are under each, itself too, and which slots are among them.
use Rattle.std.specs.Prelude.{◌≡◌, cond, List, [], ◌∷◌, ℕ, ◌+◌, ◌<◌, ltb, eqb, length, get_or}
use Rattle.sheet.specs.Forms.{at, refs, NODE, POLICY}
use Rattle.sheet.specs.Typing.{nodes_under, is_slot, slot_value}
use Rattle.sheet.specs.Sheet.{uses, has_slot}
use Rattle.table.specs.Layout.{SIZES, SLOTS, SPENT, rows_of, held}
use Rattle.uses.specs.declared.Under as D

-- which slots there are: none, the principal's, the resource's, both
abbrev pub NO_SLOT : ℕ
NO_SLOT = 0

abbrev pub FOR_PRINCIPAL : ℕ
FOR_PRINCIPAL = 1

abbrev pub FOR_RESOURCE : ℕ
FOR_RESOURCE = 2

abbrev pub FOR_BOTH : ℕ
FOR_BOTH = 3

-- one node more than policies may use, and a number up to there
abbrev pub MANY : ℕ
MANY = 1025

unfoldable pub capped : ℕ → ℕ
capped n = cond (ltb n MANY) n MANY

unfoldable pub both_of : ℕ → ℕ → ℕ
both_of x y = cond (eqb x y) x (cond (eqb x NO_SLOT) y (cond (eqb y NO_SLOT) x FOR_BOTH))

-- the slot that a row is
unfoldable pub own_slot : List ℕ → ℕ
own_slot r = cond (is_slot r) (slot_value FOR_PRINCIPAL FOR_RESOURCE (at r 1)) NO_SLOT

-- the slots among these rows
unfoldable pub slots_of : List (List ℕ) → ℕ
slots_of rs = cond (has_slot 0 rs) (cond (has_slot 1 rs) FOR_BOTH FOR_PRINCIPAL) (cond (has_slot 1 rs) FOR_RESOURCE NO_SLOT)

-- what is noted of node x
unfoldable pub size_at : List ℕ → List ℕ → ℕ → ℕ
size_at a b x = cond (ltb x (get_or a NODE 0)) (get_or b (SIZES + x) 0) 0

unfoldable pub slots_at : List ℕ → List ℕ → ℕ → ℕ
slots_at a b x = cond (ltb x (get_or a NODE 0)) (get_or b (SLOTS + x) 0) NO_SLOT

abbrev pub under : ℕ → ℕ → D.Under
under n s = record { size = n; slots = s }

-- what is under one node and another
abbrev pub with_under : D.Under → D.Under → D.Under
with_under u v = under (capped (u.size + v.size)) (both_of u.slots v.slots)

-- with what is noted of nodes l
unfoldable pub gathered_on : List ℕ → List ℕ → List ℕ → D.Under → D.Under
gathered_on a b [] u = u
gathered_on a b (x ∷ l) u = gathered_on a b l (under (capped (u.size + size_at a b x)) (both_of u.slots (slots_at a b x)))

-- what is to be noted of a node's row
unfoldable pub under_row : List ℕ → List ℕ → List ℕ → D.Under
under_row a b r = gathered_on a b (refs NODE r) (under 1 (own_slot r))

-- the uses of nodes by the policies and one more, of this row
unfoldable pub spent_on : List ℕ → List ℕ → List ℕ → ℕ
spent_on a b r = capped (get_or b SPENT 0 + size_at a b (at r 2))

-- it is so of every node and of the policies that the words hold
pub record Noted (a b : List ℕ) : Type 0 where
  pub sizes : (n : ℕ) → n < get_or a NODE 0 → get_or b (SIZES + n) 0 ≡ capped (length (nodes_under (held [] a []) n))
  pub slots : (n : ℕ) → n < get_or a NODE 0 → get_or b (SLOTS + n) 0 ≡ slots_of (nodes_under (held [] a []) n)
  pub spent : get_or b SPENT 0 ≡ capped (uses (held [] a []) (rows_of a POLICY))
