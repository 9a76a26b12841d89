-- Document 01: "Two sheets agree if the complete one's `text` and `value` lines begin with the partial one's, its `kind`, `type`, `shape`,
-- `node`, `policy` lines are the same, and every known request or entity part is the same. Each entity listed on the partial sheet is
-- listed on the complete one; more may be." Document 02: "Agreeing sheets have equal days and terms", "equal link lines".
use Rattle.std.specs.Prelude.{Bool, true, false, ◌&&◌, List, [], ◌∷◌, ℕ, eqb}
use Rattle.cedar.specs.Value.{on_some}
use Rattle.sheet.specs.Bytes.{same}
use Rattle.sheet.specs.Typing.{unknown_or}
use Rattle.sheet.specs.Forms.{at, TEXT, KIND, TYPE, SHAPE, VALUE, ENTITY, PRINCIPAL, ACTION, RESOURCE, CONTEXT, DAY, NODE, POLICY, LINK, TERM}
use Rattle.sheet.specs.State.{State, line_at, lines_of}
use Rattle.sheet.specs.Parents.{line_for}

-- p's lines are the first of c's
abbrev pub begins : List (List ℕ) → List (List ℕ) → Bool
begins [] c = true
begins (r ∷ p) [] = false
begins (r ∷ p) (q ∷ c) = same r q && begins p c

abbrev pub same_lines : List (List ℕ) → List (List ℕ) → Bool
same_lines [] [] = true
same_lines [] (q ∷ c) = false
same_lines (r ∷ p) [] = false
same_lines (r ∷ p) (q ∷ c) = same r q && same_lines p c

-- part j is the same, where it is known
abbrev pub part_same : List ℕ → List ℕ → ℕ → Bool
part_same p c j = unknown_or (at p j) (eqb (at p j) (at c j))

-- kind and text of a request, type and value of the context
abbrev pub request_same : List ℕ → List ℕ → Bool
request_same p c = eqb (at p 0) (at c 0) && part_same p c 1

-- the three parts of an entity; document 02, 2.6: "Two sheets agree on parents"
abbrev pub entity_same : List ℕ → List ℕ → Bool
entity_same p c = part_same p c 1 && part_same p c 2 && part_same p c 3

-- a partial line's entity is listed, and its known parts are the same
abbrev pub listed : List ℕ → List (List ℕ) → Bool
listed r c = on_some false (line_for (at r 0) c) (entity_same r)

abbrev pub all_listed : List (List ℕ) → List (List ℕ) → Bool
all_listed [] c = true
all_listed (r ∷ p) c = listed r c && all_listed p c

unfoldable pub agrees : State → State → Bool
agrees p c =
    begins (lines_of p TEXT) (lines_of c TEXT) && begins (lines_of p VALUE) (lines_of c VALUE)
    && same_lines (lines_of p KIND) (lines_of c KIND) && same_lines (lines_of p TYPE) (lines_of c TYPE) && same_lines (lines_of p SHAPE) (lines_of c SHAPE)
    && same_lines (lines_of p NODE) (lines_of c NODE) && same_lines (lines_of p POLICY) (lines_of c POLICY)
    && same_lines (lines_of p DAY) (lines_of c DAY) && same_lines (lines_of p TERM) (lines_of c TERM) && same_lines (lines_of p LINK) (lines_of c LINK)
    && request_same (line_at p PRINCIPAL 0) (line_at c PRINCIPAL 0) && request_same (line_at p ACTION 0) (line_at c ACTION 0)
    && request_same (line_at p RESOURCE 0) (line_at c RESOURCE 0) && request_same (line_at p CONTEXT 0) (line_at c CONTEXT 0)
    && all_listed (lines_of p ENTITY) (lines_of c ENTITY)
