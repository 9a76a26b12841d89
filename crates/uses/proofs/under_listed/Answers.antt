-- `uses::under_listed` meets its contract. Assumes nothing.
use Rattle.std.proofs.Common.{ap, List, ℕ, ◌<◌, length, get_or, arith}
use Rattle.sheet.specs.Forms.{items}
use Rattle.uses.proofs.UnderLaws.{gathering_start, gathering_on, gathering_end}
use borrow.Author.Rules.{rules}
use Rattle.uses.proofs.under_listed.Goals as goal

pub loop-x-init : goal.loop-x-init
loop-x-init c = search (gathering_start, rules)

pub loop-x-preserved : goal.loop-x-preserved
loop-x-preserved c =
    let e = c.items-x-items.ensures in
    let h : c.loop-x.x-index < length (items c.args.line.now) = omega (arith, ap length e) in
    gathering_on _ _ _ _ _ _ c.loop-x.invariant _ _ h c.slot.ensures (ap (λ (l : List ℕ). get_or l c.loop-x.x-index 0) e) _ c.with_node-under.ensures _ c.after-places.ensures

pub returns : goal.returns
returns c = search (gathering_end, rules)
