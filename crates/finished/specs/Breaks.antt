-- Document 02, 2.1: what it means that a line of the complete sheet breaks agreement, and which line number 11 names. Lines are meant as
-- number i of the lines of a key, from 0.
use Rattle.std.specs.Prelude.{◌≡◌, Bool, true, false, cond, not, List, [], ◌∷◌, ℕ, suc, ◌+◌, ◌<◌, ◌≤◌, eqb}
use Rattle.std.proofs.Math.Option.{Option}
use Rattle.std.proofs.Math.ListN.{get_elem?}
use Rattle.cedar.specs.Value.{on_some}
use Rattle.cedar.specs.Types.{among}
use Rattle.sheet.specs.Bytes.{same}
use Rattle.sheet.specs.Forms.{at, TEXT, KIND, TYPE, SHAPE, ENTITY, PRINCIPAL, ACTION, RESOURCE, CONTEXT, DAY, NODE, POLICY, LINK, TERM, no_key}
use Rattle.sheet.specs.State.{State, lines_of, line_at, count, counts, before, sum}
use Rattle.sheet.specs.Parents.{line_for}
use Rattle.sheet.specs.Agreement.{request_same, entity_same, agrees}

-- "a key that must be the same"
abbrev pub must_be_same : ℕ → Bool
must_be_same k = among k (KIND ∷ TYPE ∷ SHAPE ∷ DAY ∷ NODE ∷ POLICY ∷ LINK ∷ TERM ∷ [])

-- no "known part differs": a request or an entity line may have unknown parts, all parts of other lines are known
abbrev pub known_same : ℕ → List ℕ → List ℕ → Bool
known_same k r q = cond (eqb k ENTITY) (entity_same r q) (cond (among k (PRINCIPAL ∷ ACTION ∷ RESOURCE ∷ CONTEXT ∷ [])) (request_same r q) (same r q))

-- "the partial line of its key and place (an entity line: of its entity)"; none where the line is added
abbrev pub partial_line : State → State → ℕ → ℕ → Option (List ℕ)
partial_line p c k i = cond (eqb k ENTITY) (line_for (at (line_at c k i) 0) (lines_of p k)) (get_elem? (lines_of p k) i)

-- "breaks agreement if a known part differs from the partial line .., or if it is an added line of a key that must be the same"
abbrev pub breaks_at : State → State → ℕ → ℕ → Bool
breaks_at p c k i = on_some (must_be_same k) (partial_line p c k i) (λ r. not (known_same k r (line_at c k i)))

-- line l of the complete sheet, a line after the first, breaks agreement
pub record Breaks (p c : State) (l : ℕ) : Type 0 where
  pub key : ℕ
  pub place : ℕ
  pub later : TEXT ≤ key
  pub is_key : key < no_key
  pub there : place < count c key
  pub line_is : l ≡ suc (before c key + place)
  pub breaks : breaks_at p c key place ≡ true

-- "the first line of the complete sheet that breaks agreement (the line after its last if none does and one is lacking)"; 0 where they agree
pub data Named (p c : State) : ℕ → Type 0 where
  the_first : {l : ℕ} → Breaks p c l → ((k : ℕ) → k < l → Breaks p c k → ⊥) → Named p c l
  after_last : ((k : ℕ) → Breaks p c k → ⊥) → agrees p c ≡ false → Named p c (suc (sum (counts c)))
  no_line : ((k : ℕ) → Breaks p c k → ⊥) → agrees p c ≡ true → Named p c 0
