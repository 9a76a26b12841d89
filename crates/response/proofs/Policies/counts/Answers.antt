-- `response::Policies::counts` meets its contract. Assumes nothing.
use Rattle.response.proofs.Counting.{other_effects, tallies_start, tallies_over, tallies_on, tallies_end}
use mathlib.Core.Path.{refl, ap, ◌∙◌}
use mathlib.Core.Bool.{not}
use native.Mathlib.Omega.{arith}
use Rattle.response.proofs.Policies.counts.Goals as goal

pub loop-i-init : goal.loop-i-init
loop-i-init c = let e = c.default-counts.ensures in tallies_start _ _ _ _ refl _ e.0 e.1.0 e.1.1.0 e.1.1.1

pub loop-i-preserved-then-ne : goal.loop-i-preserved-then-ne
loop-i-preserved-then-ne c = tallies_over _ _ _ _ refl _ _ c.loop-i.invariant (omega arith) _ c.effect.ensures (other_effects _ _ _ c.ne.ensures ∙ ap not c.if-ne.true)

pub loop-i-preserved : goal.loop-i-preserved
loop-i-preserved c = tallies_on _ _ _ _ refl _ _ c.loop-i.invariant (omega arith) _ c.effect.ensures (other_effects _ _ _ c.ne.ensures ∙ ap not c.if-ne.false) _ c.class.ensures _ c.with-counts.ensures.trues c.with-counts.ensures.falses c.with-counts.ensures.errors c.with-counts.ensures.opens

pub returns : goal.returns
returns c = let e = tallies_end _ _ _ _ refl _ _ c.loop-i.invariant (omega arith) in record { trues = e.0; falses = e.1; errors = e.2; opens = e.3 }
