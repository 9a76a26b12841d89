-- Document 02, 2.1: the line of number 11 as code can find it, key by key: the first that breaks agreement, else by what is lacking.
use Rattle.std.specs.Prelude.{Bool, true, false, cond, ◌||◌, List, [], ◌∷◌, ℕ, suc, ltb, length}
use Rattle.std.proofs.Math.Option.{Option, none, some}
use Rattle.cedar.specs.Value.{on_some}
use Rattle.sheet.specs.Bytes.{same}
use Rattle.sheet.specs.Forms.{at, TEXT, KIND, TYPE, SHAPE, VALUE, ENTITY, PRINCIPAL, ACTION, RESOURCE, CONTEXT, DAY, NODE, POLICY, LINK, TERM}
use Rattle.sheet.specs.State.{State, lines_of, line_at, counts, before, sum}
use Rattle.sheet.specs.Parents.{line_for}
use Rattle.sheet.specs.Agreement.{request_same, entity_same}

-- ---- lines that break agreement. For each key: the partial sheet's lines, the complete sheet's, and how many lines of the complete sheet stand before the latter; how many
-- stand before the first that breaks agreement.

-- texts and values: lines may be added
abbrev pub begin_break : List (List ℕ) → List (List ℕ) → ℕ → Option ℕ
begin_break [] c l = none
begin_break (r ∷ p) [] l = none
begin_break (r ∷ p) (q ∷ c) l = cond (same r q) (begin_break p c (suc l)) (some l)

-- kinds, types, shapes, the day, nodes, policies, links, terms: they must be the same
abbrev pub same_break : List (List ℕ) → List (List ℕ) → ℕ → Option ℕ
same_break [] [] l = none
same_break [] (q ∷ c) l = some l
same_break (r ∷ p) [] l = none
same_break (r ∷ p) (q ∷ c) l = cond (same r q) (same_break p c (suc l)) (some l)

-- an entity that the partial sheet does not list breaks nothing
abbrev pub entity_break : List (List ℕ) → List (List ℕ) → ℕ → Option ℕ
entity_break p [] l = none
entity_break p (q ∷ c) l = cond (on_some true (line_for (at q 0) p) (λ r. entity_same r q)) (entity_break p c (suc l)) (some l)

-- the one line of principal, action, resource or context
abbrev pub request_break : List ℕ → List ℕ → ℕ → Option ℕ
request_break p c l = cond (request_same p c) none (some l)

abbrev pub first_some : List (Option ℕ) → Option ℕ
first_some [] = none
first_some (none ∷ l) = first_some l
first_some (some n ∷ l) = some n

abbrev pub breaks : State → State → List (Option ℕ)
breaks p c =
    begin_break (lines_of p TEXT) (lines_of c TEXT) (before c TEXT)
    ∷ same_break (lines_of p KIND) (lines_of c KIND) (before c KIND)
    ∷ same_break (lines_of p TYPE) (lines_of c TYPE) (before c TYPE)
    ∷ same_break (lines_of p SHAPE) (lines_of c SHAPE) (before c SHAPE)
    ∷ begin_break (lines_of p VALUE) (lines_of c VALUE) (before c VALUE)
    ∷ entity_break (lines_of p ENTITY) (lines_of c ENTITY) (before c ENTITY)
    ∷ request_break (line_at p PRINCIPAL 0) (line_at c PRINCIPAL 0) (before c PRINCIPAL)
    ∷ request_break (line_at p ACTION 0) (line_at c ACTION 0) (before c ACTION)
    ∷ request_break (line_at p RESOURCE 0) (line_at c RESOURCE 0) (before c RESOURCE)
    ∷ request_break (line_at p CONTEXT 0) (line_at c CONTEXT 0) (before c CONTEXT)
    ∷ same_break (lines_of p DAY) (lines_of c DAY) (before c DAY)
    ∷ same_break (lines_of p NODE) (lines_of c NODE) (before c NODE)
    ∷ same_break (lines_of p POLICY) (lines_of c POLICY) (before c POLICY)
    ∷ same_break (lines_of p LINK) (lines_of c LINK) (before c LINK)
    ∷ same_break (lines_of p TERM) (lines_of c TERM) (before c TERM)
    ∷ []

-- ---- "one is lacking": a line of a key that the complete sheet must have too, or an entity that it must list

abbrev pub shorter : List (List ℕ) → List (List ℕ) → Bool
shorter p c = ltb (length c) (length p)

abbrev pub unlisted_in : List (List ℕ) → List (List ℕ) → Bool
unlisted_in [] c = false
unlisted_in (r ∷ p) c = on_some true (line_for (at r 0) c) (λ q. false) || unlisted_in p c

abbrev pub any_of : List Bool → Bool
any_of [] = false
any_of (b ∷ l) = b || any_of l

abbrev pub lacking : State → State → List Bool
lacking p c =
    shorter (lines_of p TEXT) (lines_of c TEXT)
    ∷ shorter (lines_of p KIND) (lines_of c KIND)
    ∷ shorter (lines_of p TYPE) (lines_of c TYPE)
    ∷ shorter (lines_of p SHAPE) (lines_of c SHAPE)
    ∷ shorter (lines_of p VALUE) (lines_of c VALUE)
    ∷ unlisted_in (lines_of p ENTITY) (lines_of c ENTITY)
    ∷ shorter (lines_of p DAY) (lines_of c DAY)
    ∷ shorter (lines_of p NODE) (lines_of c NODE)
    ∷ shorter (lines_of p POLICY) (lines_of c POLICY)
    ∷ shorter (lines_of p LINK) (lines_of c LINK)
    ∷ shorter (lines_of p TERM) (lines_of c TERM)
    ∷ []

abbrev pub lacks : State → State → Bool
lacks p c = any_of (lacking p c)

-- of two accepted sheets it is `breakingLine` (proofs/FinishAgrees, `passed_is`)
unfoldable pub passed_line : State → State → ℕ
passed_line p c = on_some (cond (lacks p c) (suc (sum (counts c))) 0) (first_some (breaks p c)) suc
