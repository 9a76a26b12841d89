-- `depths::depth_listed` meets its contract. Assumes nothing.
use Rattle.depths.proofs.DepthLaws.{walk_start, walk_off, walk_on, walk_end}
use Rattle.std.proofs.Common.{ap, not, List, ℕ, ◌<◌, length, get_or, arith}
use Rattle.sheet.specs.Forms.{items}
use borrow.Author.Rules.{rules}
use Rattle.depths.proofs.depth_listed.Goals as goal

pub loop-x-init : goal.loop-x-init
loop-x-init c = search (walk_start, rules)

pub returns-then-not-is_there : goal.returns-then-not-is_there
returns-then-not-is_there c = search (walk_off, rules)

pub loop-x-preserved : goal.loop-x-preserved
loop-x-preserved c =
    let e = c.items-x-items.ensures in
    let h : c.loop-x.x-index < length (items c.args.line.now) = omega (arith, ap length e) in
    walk_on _ _ _ _ _ _ _ c.loop-x.invariant c.requires _ _ _ h c.slot-slot.ensures (ap (λ (l : List ℕ). get_or l c.loop-x.x-index 0) e) c.is_there.ensures (ap not c.if-not-is_there.false) _ _ _ c.depth_from.ensures c.max-deepest.ensures c.depth_from.type_inv c.after-places.ensures

pub returns : goal.returns
returns c = search (walk_end, rules)
