-- Equality of values by content, and sets in one form.
-- A value is written as a tree of numbers, different values as different trees (`CanonicalLaws.code-inj`), and trees are ordered.
use Rattle.std.specs.Prelude.{Bool, true, false, ◌||◌, ℤ, pos, negsuc}
use Prim.Native.Nat.{ℕ, Ordering}
use Rattle.std.proofs.Math.Dec.{compare_is_eq}
use Rattle.cedar.specs.Order.{Tree, leaf, node, cmp}
use Rattle.cedar.specs.Value.{Value, vbool, vlong, vtext, vent, vset, vrec, Values, vnil, vcons, Fields, fnil, fcons}

abbrev pub bit : Bool → ℕ
bit false = 0
bit true = 1

abbrev pub long_code : ℤ → Tree
long_code (pos n) = node (leaf 0) (leaf n)
long_code (negsuc n) = node (leaf 1) (leaf n)

abbrev mutual
  pub code : Value → Tree
  code (vbool b) = node (leaf 0) (leaf (bit b))
  code (vlong n) = node (leaf 1) (long_code n)
  code (vtext t) = node (leaf 2) (leaf t)
  code (vent k t) = node (leaf 3) (node (leaf k) (leaf t))
  code (vset vs) = node (leaf 4) (codes vs)
  code (vrec fs) = node (leaf 5) (field_codes fs)

  pub codes : Values → Tree
  codes vnil = leaf 0
  codes (vcons v vs) = node (code v) (codes vs)

  pub field_codes : Fields → Tree
  field_codes fnil = leaf 0
  field_codes (fcons t v fs) = node (leaf t) (node (code v) (field_codes fs))

unfoldable pub order : Value → Value → Ordering
order v w = cmp (code v) (code w)

-- "Values are equal by content, whatever their numbers."
unfoldable pub same : Value → Value → Bool
same v w = compare_is_eq (order v w)

abbrev pub member : Value → Values → Bool
member v vnil = false
member v (vcons w ws) = same v w || member v ws

-- A set in its one form: ascending and without repeats.
unfoldable pub place : Ordering → Value → Value → Values → Values → Values
place Ordering.lt v w ws r = vcons v (vcons w ws)
place Ordering.eq v w ws r = vcons w ws
place Ordering.gt v w ws r = vcons w r

unfoldable pub insert : Value → Values → Values
insert v vnil = vcons v vnil
insert v (vcons w ws) = place (order v w) v w ws (insert v ws)

unfoldable pub ascending : Values → Values
ascending vnil = vnil
ascending (vcons v vs) = insert v (ascending vs)

unfoldable pub make_set : Values → Value
make_set vs = vset (ascending vs)
