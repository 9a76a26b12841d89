-- The slots under a policy's root, over the rows in the lent words: what 64 levels show of the nodes under a node. That these are all of
-- them, on a sheet that was read so far, is a theorem.
use Rattle.std.specs.Prelude.{◌≡◌, Bool, true, cond, ◌&&◌, ◌||◌, not, List, [], ◌∷◌, ◌++◌, ℕ, zero, suc, ◌+◌, ◌≤◌, eqb, ltb, length, get_or, drop}
use Rattle.sheet.specs.Forms.{at, tag, keep, refs_from, refs, TYPE, NODE, POLICY}
use Rattle.sheet.specs.Typing.{nodes_under, is_slot, slot_value}
use Rattle.forms.specs.Rows.{OF_NODE}
use Rattle.table.specs.Layout.{rows_of, held}
use Rattle.fits.specs.Fit.{full}
use Rattle.typesets.specs.Sets.{TYPES}

-- what f shows of the nodes l that stand before node n
unfoldable pub seen_below : (ℕ → List (List ℕ)) → ℕ → List ℕ → List (List ℕ)
seen_below f n [] = []
seen_below f n (x ∷ l) = cond (ltb x n) (f x) [] ++ seen_below f n l

-- the node that item x refers to, by the code of what may stand at its place
unfoldable pub child_in : ℕ → ℕ → List ℕ
child_in code x = keep (eqb code OF_NODE) x []

-- the rows of the nodes under node n that d levels show, its own first
unfoldable pub seen_from : List (List ℕ) → ℕ → ℕ → List (List ℕ)
seen_from rows zero n = []
seen_from rows (suc d) n = cond (ltb n (length rows)) (get_or rows n [] ∷ seen_below (seen_from rows d) n (refs NODE (get_or rows n []))) []

-- from word e of a row on, no item refers to a node
pub record NodesEnd (r : List ℕ) (e : ℕ) : Type 0 where
  pub within : e ≤ length r
  pub none : (j : ℕ) → e ≤ j + 1 → refs_from NODE (tag r) j (drop (j + 1) r) ≡ []

-- 64 levels show all, and there are no more types than a sheet may have
pub record Shown (a : List ℕ) : Type 0 where
  pub few : get_or a TYPE 0 ≤ TYPES
  pub all : (n : ℕ) → seen_from (rows_of a NODE) 64 n ≡ nodes_under (held [] a []) n

module _ (a : List ℕ) (p q : ℕ) where
  -- a slot's value fits its type; a row that is no slot asks for none
  unfoldable pub slot_fits : List ℕ → Bool
  slot_fits r = not (is_slot r) || full a (slot_value p q (at r 1)) (at r 0)

  unfoldable pub slots_fit_in : List (List ℕ) → Bool
  slots_fit_in [] = true
  slots_fit_in (r ∷ rs) = slot_fits r && slots_fit_in rs

-- the root of policy n
abbrev pub root_at : List ℕ → ℕ → ℕ
root_at a n = at (get_or (rows_of a POLICY) n []) 2

unfoldable pub link_rule : List ℕ → List ℕ → Bool
link_rule a r = slots_fit_in a (at r 1) (at r 2) (seen_from (rows_of a NODE) 64 (root_at a (at r 0)))
