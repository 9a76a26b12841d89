-- The type rules over the rows in the lent words: the schema and the types that the words hold. No rule asks for a text's bytes, so the
-- sheet is left out.
use Rattle.std.specs.Prelude.{◌≡◌, Bool, true, cond, ◌&&◌, Option, Some, None, List, [], ℕ, ◌<◌, eqb, ltb, get_or}
use Rattle.std.proofs.Math.Option.{none, some}
use Rattle.std.proofs.Math.Option as Math
use Rattle.cedar.specs.Value.{on_some}
use Rattle.cedar.specs.Types.{Ty, tbool, some_kind, declared, Schema}
use Rattle.cedar.specs.TypeRules.{undeclared, ordinary, false_if, allows}
use Rattle.forms.specs.Tags.{SET_TYPE}
use Rattle.sheet.specs.Forms.{tag, TYPE}
use Rattle.sheet.specs.Content.{types, schema}
use Rattle.words.specs.Bits.{member}
use Rattle.table.specs.Layout.{rows_of, held}
use Rattle.fits.specs.Fit.{kinds_in, kind_in}
use Rattle.typerows.specs.Types.{record_at, attribute_at}

-- what a rule of the code says
abbrev pub rule_in : Option Bool → Math.Option Bool
rule_in (Some b) = some b
rule_in None = none

-- the kinds that a set of kinds has bits for
abbrev pub KINDS : ℕ
KINDS = 32

-- of the kinds that it has bits for, set w has those of row q
pub record KindSet (q w : List ℕ) : Type 0 where
  pub is : (k : ℕ) → k < KINDS → member w k ≡ kind_in q k

module _ (a : List ℕ) where
  unfoldable pub schema_at : Schema
  schema_at = schema (held [] a [])

  unfoldable pub ty_at : ℕ → Ty
  ty_at y = get_or (types (held [] a [])) y tbool

  abbrev pub type_line : ℕ → List ℕ
  type_line y = get_or (rows_of a TYPE) y []

  -- the row whose kinds `in` asks for: that of type y, or of the elements of a set; none where they are of a later type
  unfoldable pub target_row : ℕ → List ℕ
  target_row y = cond (eqb (tag (type_line y)) SET_TYPE) (cond (ltb (get_or (type_line y) 1 0) y) (type_line (get_or (type_line y) 1 0)) []) (type_line y)

  -- an entity of kind k may be in one of the kinds of row q
  unfoldable pub pair_with : List ℕ → ℕ → Bool
  pair_with q k = some_kind (allows schema_at k) (kinds_in q)

  -- type y is no record type that declares attribute t
  unfoldable pub type_lacks : ℕ → ℕ → Bool
  type_lacks t y = on_some true (record_at a y) (λ z. undeclared (attribute_at a z t))

  -- no entity of kind k has tags, or attribute t
  unfoldable pub untagged : ℕ → Bool
  untagged k = ordinary (schema_at.shape k) && undeclared (schema_at.shape k).tags

  unfoldable pub lacking : ℕ → ℕ → Bool
  lacking t k = ordinary (schema_at.shape k) && undeclared (declared t (schema_at.shape k).attrs)

  -- `has` on record type y
  unfoldable pub record_rule : ℕ → ℕ → Math.Option Bool
  record_rule t y = false_if (undeclared (attribute_at a y t))
