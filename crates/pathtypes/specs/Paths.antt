-- Paths over the rows in the lent words: what their steps ask, and the record types that they reach.
use Rattle.std.specs.Prelude.{◌≡◌, Bool, true, ◌&&◌, List, [], ◌∷◌, ℕ, ◌-◌, ◌*◌, ◌/◌, ◌%◌, ◌≤◌, ◌<◌, leb, length, get_or, drop, replicate}
use Rattle.cedar.specs.Value.{on_some}
use Rattle.sheet.specs.Forms.{TYPE}
use Rattle.sheet.specs.Typing.{all_in}
use Rattle.words.specs.Bits.{member}
use Rattle.fits.specs.Fit.{kinds_in}
use Rattle.typerows.specs.Types.{always, of_record, of_kind, each_at, attribute_at}
use Rattle.typesets.specs.Sets.{TYPES, TYPE_WORDS, Each, Asked, Gathered, set_at}
use Rattle.pathtypes.specs.declared.Place as P

-- each step of row r from word i up to word j, the word before it, is one of the texts
pub record Skipped (r texts : List ℕ) (i j : ℕ) : Type 0 where
  pub low : i ≤ j
  pub each : (k : ℕ) → i ≤ k → k < j → (k < length r) × (member texts (get_or r (k - 1) 0) ≡ true)

-- ---- what a path asks

module _ (a : List ℕ) where
  -- "A `haspath` step before the last must be an entity or record in each kind or record reached that declares it", from type y
  unfoldable pub path_from : List ℕ → ℕ → ℕ → Bool
  path_from [] t y = each_at a y always
  path_from (u ∷ us) t y = each_at a y (λ z. on_some true (attribute_at a z t) (path_from us u))

  -- the same for a row's steps, where no more types are there than a sheet may have
  unfoldable pub path_at : List ℕ → ℕ → Bool
  path_at r y = leb (get_or a TYPE 0) TYPES && path_from (drop 4 r) (get_or r 3 0) y

-- ---- what is asked of types

module _ (a : List ℕ) where
  -- of record type y; of each kind of row r; of each kind of type y, or of record type y
  abbrev pub of_type : ℕ → Asked
  of_type y f = of_record a f y ≡ true

  abbrev pub of_row : List ℕ → Asked
  of_row r f = all_in (of_kind a f) (kinds_in r) ≡ true

  abbrev pub of_each : ℕ → Asked
  of_each y f = each_at a y f ≡ true

  -- of the type that record type y declares for attribute t, if it declares one: of each of its record types
  abbrev pub declared_each : ℕ → (ℕ → Bool) → ℕ → Bool
  declared_each t f y = on_some true (attribute_at a y t) (λ z. each_at a z f)

  abbrev pub of_declared : ℕ → ℕ → Asked
  of_declared t y f = declared_each t f y ≡ true

  -- of what all record types of a set declare for it
  abbrev pub of_step : List ℕ → ℕ → Asked
  of_step records t f = Each records (declared_each t f)

-- the one record type that is asked, or that nothing passes
pub record PlaceOf (q : Asked) (p : P.Place) : Type 0 where
  pub alone : (z : ℕ) → p ≡ P.TheVariants.Alone z → (f : ℕ → Bool) → (q f → f z ≡ true) × (f z ≡ true → q f)
  pub nowhere : p ≡ P.TheVariants.Nowhere → (f : ℕ → Bool) → q f → ⊥

-- so it is of type y, which is there if it has more kinds than one
pub record Placed (a : List ℕ) (y : ℕ) (p : P.Place) : Type 0 where
  pub place : PlaceOf (of_each a y) p
  pub there : p ≡ P.TheVariants.Group → y < get_or a TYPE 0

-- ---- the record types of a type, worked out once

-- the words of a set for each type
abbrev pub SETS : ℕ
SETS = TYPES * TYPE_WORDS

-- set v has the record types of type y, and nothing else; where the answer is no, no test passes what is asked of y
abbrev pub RecordsOf : List ℕ → List ℕ → ℕ → Bool → Type 0
RecordsOf a v y b = Gathered (replicate TYPE_WORDS 0) v (of_each a y) b

-- of each type in `known` the set is worked out
pub record Learned (a known sets : List ℕ) : Type 0 where
  pub at : (y : ℕ) → member known y ≡ true → RecordsOf a (set_at sets y) y true

-- ---- steps that are remembered

-- what is asked at place p: of the type that record type p modulo 128 declares for the text of the slot; and of all record types of a set by it
module _ (a texts : List ℕ) where
  abbrev pub of_place : ℕ → Asked
  of_place p = of_declared a (get_or texts (p / TYPES) 0) (p % TYPES)

  abbrev pub of_slot : List ℕ → ℕ → Asked
  of_slot records s = of_step a records (get_or texts s 0)

  -- the set of place p has what is asked at it, and nothing else; where the answer is no, no test passes that
  abbrev pub PlacedIn : List ℕ → ℕ → Bool → Type 0
  PlacedIn images p b = Gathered (replicate TYPE_WORDS 0) (set_at images p) (of_place p) b

  -- so it is of each place that is seen
  pub record Seen (seen images : List ℕ) : Type 0 where
    pub at : (p : ℕ) → member seen p ≡ true → PlacedIn images p true
