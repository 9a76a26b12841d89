-- What is printed of the values that a run made.
use Rattle.std.specs.Prelude.{List, [], ◌∷◌, ◌++◌, ℕ}
use Rattle.sheet.specs.State.{value_row}
use Rattle.sheet.specs.Content.{rows_in}
use Rattle.sheet.specs.Answer.{printed, concat, value_items, value_lines}
use Rattle.table.specs.Layout.{rows_of, MADE}

-- items, each after a comma
abbrev pub after : List (List ℕ) → List ℕ
after [] = []
after (x ∷ l) = (44 ∷ x) ++ after l

-- the line of a value's row
unfoldable pub value_line : List ℕ → List ℕ
value_line r = printed "value" (value_items (value_row r))

-- the lines of all values made, in order of making
unfoldable pub made_lines : List ℕ → List ℕ
made_lines a = concat (value_lines (rows_in (rows_of a MADE)))
