-- `response::Policies::first_true` meets its contract. Assumes nothing.
use Rattle.response.proofs.Naming.{walk_start, walk_other, walk_on, walk_found, walk_end}
use mathlib.Core.Path.{refl, ◌∙◌}
use Rattle.response.proofs.Counting.{same_effects, same_true}
use native.Mathlib.Omega.{arith}
use Rattle.response.proofs.Policies.first_true.Goals.{else-eq-via-then-eq+else-eq-2, else-eq-via-else-eq}
use Rattle.response.proofs.Policies.first_true.Goals as goal

pub loop-i-init : goal.loop-i-init
loop-i-init c = walk_start _ _ _ _

pub returns-then-eq-2 : goal.returns-then-eq-2
returns-then-eq-2 c = walk_found _ _ _ _ refl _ c.loop-i.invariant (omega arith) _ c.effect.ensures _ c.class.ensures (same_effects _ _ _ c.eq.ensures ∙ c.if-eq.true) (same_true _ _ c.eq-then-eq.ensures ∙ c.if-eq-2.true)

pub loop-i-preserved : goal.loop-i-preserved
loop-i-preserved c =
    elim c.else-eq.branch [
      | else-eq-via-then-eq+else-eq-2 w ↦ walk_on _ _ _ _ refl _ c.loop-i.invariant (omega arith) _ c.effect.ensures _ w.class.ensures (same_true _ _ w.eq-then-eq.ensures ∙ w.if-eq-2.false)
      | else-eq-via-else-eq w ↦ walk_other _ _ _ _ refl _ c.loop-i.invariant (omega arith) _ c.effect.ensures (same_effects _ _ _ c.eq.ensures ∙ w.if-eq.false)
    ]

pub returns : goal.returns
returns c = walk_end _ _ _ _ refl _ c.loop-i.invariant (omega arith)
