-- WHAT DEMAND 3 SAYS OF A PARTIAL ANSWER BY ITSELF: the ids and effects of its policy lines are the sheet's, its counts are those of its lines, and what
-- its made values and nodes refer to is there. A text with an invented one is not confirmed by any two others.
use mathlib.Core.Path.{◌≡◌, refl, sym, ◌∙◌, ap, ap₂, subst}
use mathlib.Core.Bool.{Bool, true, false, cond}
use mathlib.Core.Option.{none, some, some-injective}
use mathlib.Core.List.{List, [], ◌∷◌}
use Prim.Native.Nat.{ℕ, ◌<◌}
use native.Mathlib.Omega.{arith}
use lib.ListN.{length, get_elem?}
use Rattle.cedar.proofs.Tools.{no_some}
use Rattle.cedar.specs.Residual.{Expr, err}
use Rattle.cedar.specs.Response.{Effect}
use Rattle.cedar.specs.Runs.{Policy}
use Rattle.sheet.specs.Forms.{partial, complete}
use Rattle.sheet.specs.State.{State}
use Rattle.sheet.specs.Sheet.{read}
use Rattle.sheet.specs.Content.{types, policies, trees_from}
use Rattle.sheet.specs.Answer.{ids}
use Rattle.sheet.specs.ReadAnswer.{Said, PolicyLine, read_answer, all_stand, tree_under}
use Rattle.sheet.specs.Demand3.{value_in, Counted, LinesConfirmed, Demand3}
use Rattle.sheet.specs.Demand3 as D

abbrev pub ids_in : List PolicyLine → List ℕ
ids_in [] = []
ids_in (x ∷ xs) = x.id ∷ ids_in xs

abbrev pub effects_in : List PolicyLine → List Effect
effects_in [] = []
effects_in (x ∷ xs) = x.effect ∷ effects_in xs

abbrev pub effects_of : List Policy → List Effect
effects_of [] = []
effects_of (q ∷ qs) = q.effect ∷ effects_of qs

-- a tree is given only where all stand
tree_stands : (p : State) (a : Said) (x : PolicyLine) (t : Expr) → tree_under p (value_in p a) a x ≡ some t → all_stand p a ≡ true
unfolding tree_under
tree_stands p a x t e = go (all_stand p a) e
  where
    go : (b : Bool) → cond b (get_elem? (trees_from (types p) (value_in p a) (λ T x. err T) [] a.nodes) x.root) none ≡ some t → b ≡ true
    go true e = refl
    go false e = no_some e

module _ {p c : State} {a : Said} where
  lines_ids : {xs ys : List PolicyLine} {is : List ℕ} {qs : List Policy} → LinesConfirmed p c a xs ys is qs → ids_in xs ≡ is
  lines_ids D.none = refl
  lines_ids (D.more h hs) = ap₂ ◌∷◌ h.partial_id (lines_ids hs)

  lines_effects : {xs ys : List PolicyLine} {is : List ℕ} {qs : List Policy} → LinesConfirmed p c a xs ys is qs → effects_in xs ≡ effects_of qs
  lines_effects D.none = refl
  lines_effects (D.more h hs) = ap₂ ◌∷◌ h.partial_effect (lines_effects hs)

  lines_stand : {xs ys : List PolicyLine} {is : List ℕ} {qs : List Policy} → LinesConfirmed p c a xs ys is qs → 0 < length xs → all_stand p a ≡ true
  lines_stand D.none h = absurd (omega (arith, h))
  lines_stand (D.more {x = x} h hs) lt = tree_stands p a x h.residual h.under_root

module _ {p c d answer₁ answer₂ answer₃ : List ℕ} (h : Demand3 p c d answer₁ answer₂ answer₃) (s : Said) (reads : read_answer partial answer₁ ≡ some s) where
  is_first : h.first ≡ s
  is_first = some-injective h.first s (sym h.first_reads ∙ reads)

  pub own_ids : ids_in s.policies ≡ ids (read complete c).state
  own_ids = ap (λ (a : Said). ids_in a.policies) (sym is_first) ∙ lines_ids h.second_confirms.lines

  pub own_effects : effects_in s.policies ≡ effects_of (policies (read complete c).state)
  own_effects = ap (λ (a : Said). effects_in a.policies) (sym is_first) ∙ lines_effects h.second_confirms.lines

  pub own_counts : Counted s
  own_counts = subst Counted is_first h.first_counts

  pub own_trees : 0 < length s.policies → all_stand (read partial p).state s ≡ true
  own_trees lt = ap (all_stand (read partial p).state) (sym is_first) ∙ lines_stand h.second_confirms.lines (subst (λ (a : Said). 0 < length a.policies) (sym is_first) lt)
