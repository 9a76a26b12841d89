-- A row of the stack of residuals: what it is, its source, the words of the block that it ends, its type.
use Rattle.std.specs.Prelude.{cond, List, [], ◌∷◌, ℕ, ◌+◌, ◌-◌, eqb, ltb, get_or}
use Rattle.residual.specs.declared.Stage.{Stage}
use Rattle.residual.specs.declared.Stage.TheVariants.{Value, Error, Open}

-- its words, and the place of each
abbrev pub ROW : ℕ
ROW = 4

abbrev pub WHAT : ℕ
WHAT = 0

abbrev pub SOURCE : ℕ
SOURCE = 1

abbrev pub WORDS : ℕ
WORDS = 2

abbrev pub ROW_TYPE : ℕ
ROW_TYPE = 3

-- what it is: a value, an error, a node left; with k steps of a path taken LEFT-ROW + k
abbrev pub VALUE_ROW : ℕ
VALUE_ROW = 0

abbrev pub ERROR_ROW : ℕ
ERROR_ROW = 1

abbrev pub LEFT_ROW : ℕ
LEFT_ROW = 2

abbrev pub lit_row : ℕ → ℕ → List ℕ
lit_row v y = VALUE_ROW ∷ v ∷ ROW ∷ y ∷ []

abbrev pub err_row : ℕ → List ℕ
err_row y = ERROR_ROW ∷ 0 ∷ ROW ∷ y ∷ []

-- node n over m words of blocks, with k steps of a path taken
abbrev pub left_row : ℕ → ℕ → ℕ → ℕ → List ℕ
left_row n k m y = (LEFT_ROW + k) ∷ n ∷ (m + ROW) ∷ y ∷ []

-- word j of the row that ends at e
unfoldable pub word_at : List ℕ → ℕ → ℕ → ℕ
word_at l e j = cond (ltb e ROW) 0 (get_or l (e - ROW + j) 0)

abbrev pub stage_of : ℕ → ℕ → Stage
stage_of t x = cond (eqb t VALUE_ROW) (Value x) (cond (eqb t ERROR_ROW) Error Open)

unfoldable pub stage_at : List ℕ → ℕ → Stage
stage_at l e = stage_of (word_at l e WHAT) (word_at l e SOURCE)

-- a block has at least one row
abbrev pub block_words : ℕ → ℕ
block_words n = cond (ltb n ROW) ROW n

-- where the block that ends at e begins
unfoldable pub start_at : List ℕ → ℕ → ℕ
start_at l e = e - block_words (word_at l e WORDS)
