-- The check of all that entities reach, over words: as `firstUnfit` of the sheet has it (proofs/Fits).
use Rattle.std.specs.Prelude.{◌≡◌, Bool, true, false, cond, not, ◌⊎◌, List, [], ◌∷◌, ℕ, suc, ◌<◌, ◌≤◌, eqb, get_or}
use Rattle.cedar.specs.Numbered.{r_ent}
use Rattle.sheet.specs.Forms.{at, VALUE, ENTITY}
use Rattle.sheet.specs.State.{value_row}
use Rattle.sheet.specs.Typing.{all_in}
use Rattle.sheet.specs.Parents.{parents_in, ancestors}
use Rattle.table.specs.Layout.{rows_of}
use Rattle.typing.specs.Rules.{ancestor_rule}
use Rattle.reach.specs.Marks.{line_rows}

-- the kinds of these are all above kind d
unfoldable pub all_above : List ℕ → ℕ → List ℕ → Bool
all_above a d q = all_in (λ v. ancestor_rule a v d) q

-- a parent on line k is of another kind
unfoldable pub unfit_at : List ℕ → ℕ → ℕ → Bool
unfit_at a d k = not (all_above a d (parents_in (rows_of a VALUE) (line_rows a) (get_or (line_rows a) k [])))

-- a value is not an entity of a kind above
unfoldable pub unfit_value : List ℕ → ℕ → ℕ → Bool
unfit_value a d v = not (ancestor_rule a v d)

-- the kinds that the entity of row r reaches are all above its own
unfoldable pub reached_rule : List ℕ → List ℕ → Bool
reached_rule a r = r_ent false (value_row (get_or (rows_of a VALUE) (at r 0) [])) (λ d t. all_above a d (ancestors (rows_of a VALUE) (line_rows a) (at r 0)))

-- the entity of line k is of kind d
unfoldable pub is_kind : List ℕ → ℕ → ℕ → Bool
is_kind a d k = r_ent false (value_row (get_or (rows_of a VALUE) (at (get_or (line_rows a) k []) 0) [])) (λ e t. eqb e d)

-- line k is noted as fit where it is marked and its entity is of kind d; then all of the first n
pub record Passed (a : List ℕ) (d : ℕ) (m : List ℕ) (k : ℕ) (f f' : List ℕ) : Type 0 where
  pub is : (j : ℕ) → 1 ≤ get_or f' j 0 → (1 ≤ get_or f j 0) ⊎ ((j ≡ k) × (1 ≤ get_or m j 0) × (is_kind a d j ≡ true))

pub record Passes (a : List ℕ) (d : ℕ) (m : List ℕ) (n : ℕ) (f f' : List ℕ) : Type 0 where
  pub is : (j : ℕ) → 1 ≤ get_or f' j 0 → (1 ≤ get_or f j 0) ⊎ ((j < n) × (1 ≤ get_or m j 0) × (is_kind a d j ≡ true))

-- the lines that are noted as fit reach only kinds above their own
pub record Fit (a f : List ℕ) : Type 0 where
  pub is : (j : ℕ) → 1 ≤ get_or f j 0 → reached_rule a (get_or (rows_of a ENTITY) j []) ≡ true

-- r says whether v reaches a kind that is not above d
pub record Unfit (a : List ℕ) (d v : ℕ) (f : List ℕ) (r : Bool) : Type 0 where
  pub is : r ≡ not (all_above a d (ancestors (rows_of a VALUE) (line_rows a) v))
  pub fit : Fit a f

-- r says whether line k reaches only kinds above its own
pub record Fitted (a : List ℕ) (k : ℕ) (f : List ℕ) (r : Bool) : Type 0 where
  pub is : r ≡ reached_rule a (get_or (rows_of a ENTITY) k [])
  pub fit : Fit a f

unfoldable pub unfit_from : List ℕ → List (List ℕ) → ℕ
unfit_from a [] = 0
unfit_from a (r ∷ rs) = cond (reached_rule a r) (suc (unfit_from a rs)) 0
