-- Types, shapes, kinds and the request over the rows in the lent words, by their numbers.
use Rattle.std.specs.Prelude.{Bool, true, false, List, [], ℕ, ◌-◌, eqb, get_or, drop}
use Rattle.std.proofs.Math.Option.{Option, none, some}
use Rattle.cedar.specs.Value.{on_some}
use Rattle.cedar.specs.Numbered.{mem_n}
use Rattle.sheet.specs.Forms.{items, first_type, KIND, TYPE, SHAPE}
use Rattle.sheet.specs.State.{TypeRow, bool, long, string, entity, set', record', declareds, type_row}
use Rattle.sheet.specs.Typing.{on_entity, on_set_of, on_record, all_in, none_declared}
use Rattle.forms.specs.Tags.{LONG_TYPE, STRING_TYPE, ENTITY_TYPE, SET_TYPE, RECORD_TYPE, OF_ACTIONS}
use Rattle.table.specs.Layout.{rows_of}
use Rattle.fits.specs.Fit.{declared_by}

-- a test that everything passes
abbrev pub always : ℕ → Bool
always x = true

-- ---- types, by their numbers

-- the sorts of types: the places of their forms among the forms of types
abbrev pub BOOL_SORT : ℕ
BOOL_SORT = 0

abbrev pub LONG_SORT : ℕ
LONG_SORT = LONG_TYPE - first_type

abbrev pub STRING_SORT : ℕ
STRING_SORT = STRING_TYPE - first_type

abbrev pub ENTITY_SORT : ℕ
ENTITY_SORT = ENTITY_TYPE - first_type

abbrev pub SET_SORT : ℕ
SET_SORT = SET_TYPE - first_type

abbrev pub RECORD_SORT : ℕ
RECORD_SORT = RECORD_TYPE - first_type

abbrev pub sort_number : TypeRow → ℕ
sort_number bool = BOOL_SORT
sort_number long = LONG_SORT
sort_number string = STRING_SORT
sort_number (entity k ks) = ENTITY_SORT
sort_number (set' t) = SET_SORT
sort_number (record' ds) = RECORD_SORT

module _ (a : List ℕ) where
  unfoldable pub sort_at : ℕ → ℕ
  sort_at y = sort_number (type_row (get_or (rows_of a TYPE) y []))

  -- the kinds of an entity type, the type of a set's elements, and a record type itself
  unfoldable pub kinds_at : ℕ → Option (List ℕ)
  kinds_at y = on_entity none (type_row (get_or (rows_of a TYPE) y [])) some

  unfoldable pub element_at : ℕ → Option ℕ
  element_at y = on_set_of none (type_row (get_or (rows_of a TYPE) y [])) some

  unfoldable pub record_at : ℕ → Option ℕ
  record_at y = on_record none (type_row (get_or (rows_of a TYPE) y [])) (λ ds. some y)

  -- the type that record type y declares for attribute t
  unfoldable pub attribute_at : ℕ → ℕ → Option ℕ
  attribute_at y t = declared_by (get_or (rows_of a TYPE) y []) t

  -- record type y declares nothing
  unfoldable pub bare_at : ℕ → Bool
  bare_at y = none_declared (declareds (items (get_or (rows_of a TYPE) y [])))

  -- the types that a kind's shape names: of its attributes, and of its tags
  unfoldable pub attribute_type_at : ℕ → ℕ
  attribute_type_at k = get_or (get_or (rows_of a SHAPE) k []) 1 0

  unfoldable pub tag_type_at : ℕ → ℕ
  tag_type_at k = get_or (get_or (rows_of a SHAPE) k []) 2 0

  -- the kinds above kind k
  abbrev pub above_at : ℕ → List ℕ
  above_at k = drop 3 (get_or (rows_of a SHAPE) k [])

  unfoldable pub is_above_at : ℕ → ℕ → Bool
  is_above_at k l = mem_n l (drop 3 (get_or (rows_of a SHAPE) k []))

  unfoldable pub action_at : ℕ → Bool
  action_at k = eqb (get_or (get_or (rows_of a KIND) k []) 2 0) OF_ACTIONS

  -- f of record type y, and of the record type of kind k's attributes; false where that is no record type
  unfoldable pub of_record : (ℕ → Bool) → ℕ → Bool
  of_record f y = on_some false (record_at y) f

  unfoldable pub of_kind : (ℕ → Bool) → ℕ → Bool
  of_kind f k = of_record f (attribute_type_at k)

  -- f of the record type of each kind of entity type y, or of record type y; false of other types
  unfoldable pub each_at : ℕ → (ℕ → Bool) → Bool
  each_at y f = on_some (of_record f y) (kinds_at y) (all_in (of_kind f))

  -- record type y declares type o for attribute t; the type of kind k's tags is o
  unfoldable pub declares_as : ℕ → ℕ → ℕ → Bool
  declares_as t o y = on_some false (attribute_at y t) (eqb o)

  unfoldable pub tags_are : ℕ → ℕ → Bool
  tags_are o k = eqb (tag_type_at k) o

  -- an entity or set of entities
  unfoldable pub target_at : ℕ → Bool
  target_at y = on_some (eqb (sort_at y) ENTITY_SORT) (element_at y) (λ e. eqb (sort_at e) ENTITY_SORT)

  -- the kind or type that a line of the request names
  unfoldable pub request_at : ℕ → ℕ
  request_at k = get_or (get_or (rows_of a k) 0 []) 1 0
