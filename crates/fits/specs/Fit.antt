-- A value fits a type, over the rows in the lent words: what the search promises, and what it remembers.
use Rattle.std.specs.Prelude.{◌≡◌, Bool, true, false, cond, ◌&&◌, ◌||◌, not, Option, Some, None, List, [], ◌∷◌, ℕ, ◌+◌, ◌-◌, ◌*◌, ◌≤◌, max, ltb, eqb, length, get_or, drop}
use Rattle.std.proofs.Math.Option.{none, some}
use Rattle.std.proofs.Math.Option as Math
use Rattle.cedar.specs.Value.{on_some}
use Rattle.cedar.specs.Numbered.{r_bool, mem_n, entry_of, is_some}
use Rattle.sheet.specs.Forms.{tag, items, VALUE, TYPE}
use Rattle.sheet.specs.State.{declareds, entries_of, type_row, value_row}
use Rattle.sheet.specs.Typing.{declared_in, required_there, all_in, all_entries, row_fits, fits_by, fits_in}
use Rattle.words.specs.Bits.{member, added}
use Rattle.forms.specs.Tags.{SET_TYPE, RECORD_TYPE, REQUIRED}
use Rattle.table.specs.Layout.{rows_of, TYPEDEPTHS}

-- ---- the kinds of an entity type's row

-- the first, and perhaps more
abbrev pub kinds_in : List ℕ → List ℕ
kinds_in y = get_or y 1 0 ∷ drop 2 y

-- those from word i on, and the word where they end
unfoldable pub kinds_from : List ℕ → ℕ → List ℕ
kinds_from y i = drop (i - 1) (kinds_in y)

abbrev pub kinds_end : List ℕ → ℕ
kinds_end y = max 2 (length y)

-- k is among them
unfoldable pub kind_in : List ℕ → ℕ → Bool
kind_in y k = mem_n k (kinds_in y)

-- ---- parts of `row_fits` over rows of numbers

-- record r has attribute t
unfoldable pub has_in : List ℕ → ℕ → Bool
has_in r t = is_some (entry_of t (entries_of (items r)))

-- what stands in items l, record r has
pub record Within (r l : List ℕ) : Type 0 where
  pub had : (t : ℕ) → is_some (entry_of t (entries_of l)) ≡ true → has_in r t ≡ true

-- where a record goes on after items l: behind its attribute there, where that is t
unfoldable pub after_in : List ℕ → ℕ → List ℕ
after_in l t = cond (ltb 1 (length l) && eqb t (get_or l 0 0)) (drop 2 l) l

-- record r has all attributes that record type y requires
unfoldable pub complete_in : List ℕ → List ℕ → Bool
complete_in r y = required_there (declareds (items y)) (has_in r)

-- attribute t is optional or there
unfoldable pub met : List ℕ → ℕ → ℕ → Bool
met r t required = not (eqb required REQUIRED) || has_in r t

-- the type that record type y declares for attribute t, and what the answer of a search says
unfoldable pub declared_by : List ℕ → ℕ → Math.Option ℕ
declared_by y t = declared_in t (declareds (items y))

-- what record type y declares for the first attribute of items l and those above it stands in l
pub record Ahead (y l : List ℕ) : Type 0 where
  pub left : (t : ℕ) → get_or l 0 0 ≤ t → declared_by y t ≡ declared_in t (declareds l)

-- what items l declare for the first attribute of items m and those above it stands in m
pub record Sought (l m : List ℕ) : Type 0 where
  pub low : get_or l 0 0 ≤ get_or m 0 0
  pub left : (t : ℕ) → get_or m 0 0 ≤ t → declared_in t (declareds l) ≡ declared_in t (declareds m)

abbrev pub found_in : Option ℕ → Math.Option ℕ
found_in (Some y) = some y
found_in None = none

unfoldable pub set_fits : (ℕ → ℕ → Bool) → List ℕ → ℕ → Bool
set_fits f r y = all_in (λ x. f x y) (items r)

unfoldable pub record_fits : (ℕ → ℕ → Bool) → List ℕ → List ℕ → Bool
record_fits f r y = all_entries (λ t x. on_some false (declared_in t (declareds (items y))) (f x)) (entries_of (items r))

-- "tags of the tag type"
unfoldable pub tags_fit_by : (ℕ → ℕ → Bool) → List ℕ → ℕ → Bool
tags_fit_by f r y = all_entries (λ t x. f x y) (entries_of (items r))

unfoldable pub rows_fit : (ℕ → ℕ → Bool) → List ℕ → List ℕ → Bool
rows_fit f r y = row_fits f (value_row r) (type_row y)

-- a value's row that fits `bool`
unfoldable pub is_bool_row : List ℕ → Bool
is_bool_row r = r_bool false (value_row r) (λ b. true)

-- where the type is no set and no record, the parts are not asked for
pub record Leaf (r y : List ℕ) (b : Bool) : Type 0 where
  pub is : (f : ℕ → ℕ → Bool) → (tag y ≡ SET_TYPE → ⊥) → (tag y ≡ RECORD_TYPE → ⊥) → b ≡ rows_fit f r y

-- ---- pairs found to fit: one bit for each of 1,024 values and 128 types

unfoldable pub is_pair : ℕ → ℕ → Bool
is_pair v t = ltb v 1024 && ltb t 128

unfoldable pub marked : List ℕ → ℕ → ℕ → Bool
marked m v t = is_pair v t && member m (v * 128 + t)

unfoldable pub with_pair : List ℕ → ℕ → ℕ → List ℕ
with_pair m v t = cond (is_pair v t) (added m (v * 128 + t)) m

-- ---- the promise

-- the whole depth is enough: what fits by its parts fits
pub record Settled (values types : List (List ℕ)) : Type 0 where
  pub closes : (v t : ℕ) → row_fits (fits_in values types) (value_row (get_or values v [])) (type_row (get_or types t [])) ≡ true → fits_in values types v t ≡ true

module _ (a : List ℕ) where
  -- by remaining depth, and at the whole depth
  unfoldable pub deep : ℕ → ℕ → ℕ → Bool
  deep d v t = fits_by (rows_of a VALUE) (rows_of a TYPE) d v t

  unfoldable pub full : ℕ → ℕ → Bool
  full v t = fits_in (rows_of a VALUE) (rows_of a TYPE) v t

  -- so it is of the rows in words a
  unfoldable pub SettledIn : Type 0
  SettledIn = Settled (rows_of a VALUE) (rows_of a TYPE)

-- what is remembered is true
pub record Known (a m : List ℕ) : Type 0 where
  pub holds : (v t : ℕ) → marked m v t ≡ true → SettledIn a → full a v t ≡ true

-- from words m to n: an answer b between what holds by remaining depth and what holds at the whole depth, what is remembered is still true,
-- and the words that follow the pairs are untouched
pub record Ran (a m n : List ℕ) (low high b : Bool) : Type 0 where
  pub yes_is : b ≡ true → SettledIn a → high ≡ true
  pub no_is : b ≡ false → low ≡ false
  pub known : Known a n
  pub rest : drop TYPEDEPTHS n ≡ drop TYPEDEPTHS m

-- the answer is the definition's wherever the whole depth is enough
pub record Answered (a m n : List ℕ) (answer b : Bool) : Type 0 where
  pub is : SettledIn a → b ≡ answer
  pub known : Known a n
  pub rest : drop TYPEDEPTHS n ≡ drop TYPEDEPTHS m
