-- The values that one sheet's run made, among the values of another sheet. Each definition is total.
use Rattle.std.specs.Prelude.{◌≡◌, cond, List, [], ◌∷◌, ℕ, suc, ◌-◌, eqb, ltb, get_or, drop, set}
use Rattle.words.specs.Log.{appended, pushed}
use Rattle.sheet.specs.Forms.{tag, VALUE}
use Rattle.forms.specs.Tags.{SET_VALUE, RECORD_VALUE}
use Rattle.table.specs.Layout.{rows_of, MADE}
use Rattle.residual.specs.Rows.{lit_row}
use Rattle.value.specs.Made.{set_row, written, number_of, with_value}

-- the number there of value v: one of the g given values keeps its own, a made one has the number noted for it
unfoldable pub number_there : ℕ → List ℕ → ℕ → ℕ
number_there g ns v = cond (ltb v g) v (get_or ns (v - g) 0)

-- members as rows of values after those of l, while there is room
unfoldable pub member_rows : (ℕ → ℕ) → List ℕ → List ℕ → List ℕ
member_rows f [] l = l
member_rows f (x ∷ xs) l = member_rows f xs (appended l (lit_row (f x) 0))

-- texts and values in turn
unfoldable pub fields_onto : (ℕ → ℕ) → List ℕ → List ℕ → List ℕ
fields_onto f [] l = l
fields_onto f (t ∷ []) l = l
fields_onto f (t ∷ v ∷ xs) l = fields_onto f xs (pushed (pushed l t) (f v))

unfoldable pub field_words : (ℕ → ℕ) → List ℕ → List ℕ
field_words f xs = fields_onto f xs (pushed [] RECORD_VALUE)

-- a set's members and a record's values by their numbers there; other rows have no such numbers
unfoldable pub row_there : (ℕ → ℕ) → List ℕ → List ℕ
row_there f r =
    cond (eqb (tag r) SET_VALUE) (written (member_rows f (drop 1 r) []) (set_row (member_rows f (drop 1 r) [])))
    (cond (eqb (tag r) RECORD_VALUE) (field_words f (drop 1 r)) r)

-- the words there, and the numbers noted
pub record There : Type 0 where
  pub words : List ℕ
  pub numbers : List ℕ

-- the rows from number i on, each found or made after those before it
unfoldable pub carried_from : ℕ → List (List ℕ) → ℕ → List ℕ → List ℕ → There
carried_from g [] i a ns = record { words = a; numbers = ns }
carried_from g (r ∷ rs) i a ns = let q = row_there (number_there g ns) r in carried_from g rs (suc i) (with_value a q) (set ns i (number_of a q))

-- the values that the run over the words kept made
unfoldable pub carried_of : List ℕ → List ℕ → List ℕ → There
carried_of kept a ns = carried_from (get_or kept VALUE 0) (rows_of kept MADE) 0 a ns

pub record Carried (t : There) (a ns : List ℕ) : Type 0 where
  pub words : a ≡ t.words
  pub numbers : ns ≡ t.numbers
