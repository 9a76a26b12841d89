-- Document 02, 2.6: "The last column of `entity` holds parents; ancestors are all entities reached through them, circles allowed."
-- Entities are named by the numbers of their values; `values` and `entities` are the lines of these keys.
use Rattle.std.specs.Prelude.{◌≡◌, Bool, true, false, cond, ◌||◌, List, [], ◌∷◌, ◌++◌, ℕ, zero, suc, eqb, length, get_or}
use Rattle.std.proofs.Math.Option.{Option, none, some}
use Rattle.cedar.specs.Value.{on_some}
use Rattle.cedar.specs.Numbered.{mem_n, r_set}
use Rattle.sheet.specs.Forms.{at, mark}
use Rattle.sheet.specs.State.{value_row}

-- the line of the entity with value number n
abbrev pub line_for : ℕ → List (List ℕ) → Option (List ℕ)
line_for n [] = none
line_for n (q ∷ c) = cond (eqb (at q 0) n) (some q) (line_for n c)

-- the first with what it lacks of the second
abbrev pub with_all : List ℕ → List ℕ → List ℕ
with_all l [] = l
with_all l (y ∷ k) = with_all (cond (mem_n y l) l (y ∷ l)) k

-- ---- steps, where `above x` are the parents of x

module _ (above : ℕ → List ℕ) where
  -- the parents of all these
  abbrev pub parents_of : List ℕ → List ℕ
  parents_of [] = []
  parents_of (x ∷ l) = above x ++ parents_of l

  -- one step more
  abbrev pub further : List ℕ → List ℕ
  further l = with_all l (parents_of l)

  -- what is reached from these in at most j steps, these too
  abbrev pub within : ℕ → List ℕ → List ℕ
  within zero l = l
  within (suc j) l = further (within j l)

  -- m is reached from n through parents, in one step or more
  pub data Reaches : ℕ → ℕ → Type 0 where
    parent : {n m : ℕ} → mem_n m (above n) ≡ true → Reaches n m
    beyond : {n p m : ℕ} → Reaches n p → mem_n m (above p) ≡ true → Reaches n m

module _ (values entities : List (List ℕ)) where
  -- the parents that a line names, none where they are `?`
  abbrev pub parents_in : List ℕ → List ℕ
  parents_in r = cond (eqb (at r 3) mark) [] (r_set [] (value_row (get_or values (at r 3) [])) (λ l. l))

  -- "On a complete sheet an unlisted one has no parents."
  abbrev pub parents : ℕ → List ℕ
  parents n = on_some [] (line_for n entities) parents_in

  -- "all entities reached through them": after its parents as many steps as there are entity lines; more add nothing (proofs/Reaching)
  unfoldable pub ancestors : ℕ → List ℕ
  ancestors n = within parents (length entities) (parents n)

  -- "it is unlisted", "its own parents are `?`"
  abbrev pub is_open : ℕ → Bool
  is_open n = on_some true (line_for n entities) (λ r. eqb (at r 3) mark)

  abbrev pub any_open : List ℕ → Bool
  any_open [] = false
  any_open (x ∷ l) = is_open x || any_open l

  -- "On a partial sheet an entity has unknown ancestors if it is unlisted, if its own parents are `?`, or if it reaches an entity of either sort."
  unfoldable pub unknown_above : ℕ → Bool
  unknown_above n = is_open n || any_open (ancestors n)
