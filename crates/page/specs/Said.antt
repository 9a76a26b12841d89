-- What is printed on a page of the policies that the words hold.
use Rattle.std.specs.Prelude.{List, [], ◌∷◌, ℕ, get_or, drop}
use Rattle.cedar.specs.Response.{Decision, decision}
use Rattle.sheet.specs.Ascii.{ascii}
use Rattle.sheet.specs.Forms.{at}
use Rattle.sheet.specs.Answer.{concat}
use Rattle.sheet.specs.ReadAnswer.{PolicyLine}
use Rattle.table.specs.Layout.{RUN, rows_of, text_at}
use Rattle.response.specs.Verdicts.{class_in, effect_in, verdicts_in}
use Rattle.paged.specs.Page.{cell, first_row, policy_row, shown_rows, page_line, page_lines, said_rows, page_of}

-- the first line's columns
abbrev pub first_cell : Decision → List ℕ
first_cell d = cell 72 (first_row d)

-- an effect and a class by their numbers
abbrev pub effect_cell : ℕ → List ℕ
effect_cell n = cell 8 (ascii (get_or ("permit" ∷ []) n "forbid"))

abbrev pub class_cell : ℕ → List ℕ
class_cell n = cell 8 (ascii (get_or ("true" ∷ "false" ∷ "error" ∷ []) n "open"))

-- the line of policy i, of which so many nodes are left
unfoldable pub line_at : List ℕ → List ℕ → List ℕ → ℕ → ℕ → List ℕ
line_at sheet a cs i nodes = page_line (policy_row (text_at sheet a (at (get_or (rows_of a RUN) i []) 0)) (effect_in (get_or (rows_of a RUN) i [])) (class_in (get_or cs i 0)) nodes)

-- the policies of these rows, as lines of an answer: a word of class and the number of the root for each
abbrev pub policies_of : List (List ℕ) → List ℕ → List ℕ → List PolicyLine
policies_of [] cs es = []
policies_of (r ∷ rs) cs es = record { id = at r 0; effect = effect_in r; class = class_in (get_or cs 0 0); root = get_or es 0 0 } ∷ policies_of rs (drop 1 cs) (drop 1 es)

unfoldable pub policies_in : List ℕ → List ℕ → List ℕ → List PolicyLine
policies_in a cs es = policies_of (rows_of a RUN) cs es

-- the rows of all policies; the lines of the first n of them, the lines after the first one of a page, and lines of spaces
abbrev pub rows_in : List ℕ → List ℕ → List ℕ → List ℕ → List (List ℕ)
rows_in sheet a cs es = said_rows (text_at sheet a) 0 (policies_in a cs es)

unfoldable pub first_lines : List ℕ → List ℕ → List ℕ → List ℕ → ℕ → List ℕ
first_lines sheet a cs es n = concat (page_lines n (rows_in sheet a cs es))

unfoldable pub shown_lines : List ℕ → List ℕ → List ℕ → List ℕ → List ℕ
shown_lines sheet a cs es = concat (page_lines 59 (shown_rows (rows_in sheet a cs es)))

unfoldable pub blank_lines_def : ℕ → List ℕ
blank_lines_def n = concat (page_lines n [])

-- the page
unfoldable pub page_in : List ℕ → List ℕ → List ℕ → List ℕ → List ℕ
page_in sheet a cs es = page_of (text_at sheet a) (decision (verdicts_in a cs)) (policies_in a cs es)
