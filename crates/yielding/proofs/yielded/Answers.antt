-- `yielding::yielded` meets its contract. Assumes nothing.
use Rattle.yielding.proofs.Turning.{yielded_is}
use native.Mathlib.Omega.{arith}
use Rattle.yielding.proofs.yielded.Goals as goal

pub returns : goal.returns
returns c = let c₁ = c in
    let c₂ = c₁ in
    let c₃ = c₂ in
    let c₄ = c₃ in
    let c₅ = c₄ in
    yielded_is _ _ _ _ _ _ _ _ _ _ _ _ _ (omega (arith, c₅.requires, c₄.carry.auto.log, c₂.run-top.auto.log, c₁.classes.auto.log)) c₄.carry.ensures c₃.count.ensures c₂.run-top.ensures c₁.classes.ensures
