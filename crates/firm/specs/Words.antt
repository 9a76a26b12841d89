-- Rows as plain words, three to a row, principal, resource, decision, for callers that have no row structs.
use Rattle.std.specs.Prelude.{◌≡◌, List, [], ◌∷◌, ◌++◌, ℕ, ◌+◌, ◌*◌, get_or}
use Rattle.firm.specs.declared.Row as R
use Rattle.firm.specs.declared.Quote as Q
use Rattle.firm.specs.Promise.{Quotes}

abbrev pub row_of : ℕ → ℕ → ℕ → R.Row
row_of p q d = record { principal = p; resource = q; decision = d }

-- the rows that words are; one or two words at the end make no row
abbrev pub rows_of_words : List ℕ → List R.Row
rows_of_words [] = []
rows_of_words (p ∷ []) = []
rows_of_words (p ∷ q ∷ []) = []
rows_of_words (p ∷ q ∷ d ∷ ws) = row_of p q d ∷ rows_of_words ws

abbrev pub spare : List ℕ → List ℕ
spare [] = []
spare (p ∷ []) = p ∷ []
spare (p ∷ q ∷ []) = p ∷ q ∷ []
spare (p ∷ q ∷ d ∷ ws) = spare ws

-- the words of rows
abbrev pub words_of_row : R.Row → List ℕ
words_of_row r = r.principal ∷ r.resource ∷ r.decision ∷ []

abbrev pub words_of_rows : List R.Row → List ℕ
words_of_rows [] = []
words_of_rows (r ∷ rs) = r.principal ∷ r.resource ∷ r.decision ∷ words_of_rows rs

-- row i of the words
unfoldable pub row_from_def : List ℕ → ℕ → R.Row
row_from_def ws i = row_of (get_or ws (i * 3) 0) (get_or ws (i * 3 + 1) 0) (get_or ws (i * 3 + 2) 0)

-- the same call: it is that of the rows that the words are, and leaves the words of the rows that it leaves
pub record QuotesWords (sheet words w₁ w₂ : List ℕ) (f : Q.Quote) (words' w₁' w₂' : List ℕ) : Type 0 where
  pub rows : List R.Row
  pub quotes : Quotes sheet (rows_of_words words) w₁ w₂ f rows w₁' w₂'
  pub words_are : words' ≡ words_of_rows rows ++ spare words
