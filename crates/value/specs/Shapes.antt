-- What a value's row says, as the sheet's `valueRow` reads it; a set's members and a record's entries stay in the row.
use Rattle.std.specs.Prelude.{Option as Maybe, Some, None, false, List, [], ◌∷◌, ℕ, ◌+◌, ◌-◌, ◌*◌, eqb, get_or}
use Rattle.std.proofs.Math.Option.{Option, none, some}
use Rattle.sheet.specs.Bytes.{long_at}
use Rattle.sheet.specs.Forms.{tag, at, first_value}
use Rattle.sheet.specs.State.{entries_of}
use Rattle.cedar.specs.Rows.{Row, rbool, rlong, rtext, rent, rset, rrec}
use Rattle.value.specs.declared.Shape.{Shape}
use Rattle.value.specs.declared.Shape.TheVariants.{Bool as Boolˢ, Long, Text, Entity, Set, Record}

unfoldable pub shape_of : List ℕ → Shape
shape_of r = get_or (Boolˢ (eqb (at r 0) 1) ∷ Long (at r 0 * 4294967296 + at r 1) ∷ Text (at r 0) ∷ Entity (at r 0) (at r 1) ∷ Set ∷ Record ∷ []) (tag r - first_value) (Boolˢ false)

-- the row of a shape and the items that stay in the row
abbrev pub shape_row : Shape → List ℕ → Row
shape_row (Boolˢ b) l = rbool b
shape_row (Long w) l = rlong (long_at w)
shape_row (Text t) l = rtext t
shape_row (Entity k t) l = rent k t
shape_row Set l = rset l
shape_row Record l = rrec (entries_of l)

-- what a search found, if anything; as the code answers it
abbrev pub value_found : Maybe ℕ → Option ℕ
value_found (Some v) = some v
value_found None = none
