-- The definitions on small cases. Assumes nothing.
use mathlib.Core.Path.{◌≡◌, refl}
use mathlib.Core.Bool.{true}
use mathlib.Core.List.{[], ◌∷◌}
use mathlib.Core.Option.{none, some}
use Rattle.forms.specs.Tags.{BOOL_VALUE, LONG_VALUE, ENTITY_VALUE, SET_VALUE, RECORD_VALUE, RECORD_OF}
use Rattle.value.specs.Lines.{place_of}
use Rattle.value.specs.Shapes.{shape_of}
use Rattle.value.specs.Made.{values_in, set_row, pairs_of, record_row, lower_of, least_of}
use Rattle.value.specs.declared.Shape.TheVariants.{Bool as Boolˢ, Long, Entity, Set}

places : (place_of (BOOL_VALUE ∷ 1 ∷ []) ((BOOL_VALUE ∷ 0 ∷ []) ∷ (BOOL_VALUE ∷ 1 ∷ []) ∷ []) ≡ 1) × (place_of (BOOL_VALUE ∷ []) ((BOOL_VALUE ∷ 0 ∷ []) ∷ []) ≡ 1)
unfolding place_of
places = (refl, refl)

shapes : (shape_of (BOOL_VALUE ∷ 1 ∷ []) ≡ Boolˢ true) × (shape_of (LONG_VALUE ∷ 2147483648 ∷ 5 ∷ []) ≡ Long 9223372036854775813) × (shape_of (ENTITY_VALUE ∷ 2 ∷ 7 ∷ []) ≡ Entity 2 7) × (shape_of (SET_VALUE ∷ []) ≡ Set)
unfolding shape_of
shapes = (refl, refl, refl, refl)

-- values 7, 3, 7 and 5 of residual rows
sets : set_row (0 ∷ 7 ∷ 4 ∷ 0 ∷ 0 ∷ 3 ∷ 4 ∷ 0 ∷ 0 ∷ 7 ∷ 4 ∷ 0 ∷ 0 ∷ 5 ∷ 4 ∷ 0 ∷ []) ≡ SET_VALUE ∷ 3 ∷ 5 ∷ 7 ∷ []
unfolding set_row values_in
sets = refl

least : (least_of 4 none (7 ∷ 3 ∷ 7 ∷ 5 ∷ []) ≡ some 5) × (least_of 8 none (7 ∷ 3 ∷ []) ≡ none)
unfolding least_of lower_of
least = (refl, refl)

-- texts 1 and 4 of a record node of type 6
records : record_row (RECORD_OF ∷ 6 ∷ 1 ∷ 20 ∷ 4 ∷ 21 ∷ []) (0 ∷ 9 ∷ 4 ∷ 0 ∷ 0 ∷ 8 ∷ 4 ∷ 0 ∷ []) ≡ RECORD_VALUE ∷ 1 ∷ 9 ∷ 4 ∷ 8 ∷ []
unfolding record_row pairs_of
records = refl
