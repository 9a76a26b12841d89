-- `uses::use_listed` meets its contract. Assumes nothing.
use Rattle.std.proofs.Common.{ap, List, ℕ, ◌<◌, length, get_or, arith}
use Rattle.sheet.specs.Forms.{items}
use Rattle.uses.proofs.UseLaws.{marking_start, marking_twice, marking_on, marking_end}
use borrow.Author.Rules.{rules}
use Rattle.uses.proofs.use_listed.Goals as goal

pub loop-x-init : goal.loop-x-init
loop-x-init c = search (marking_start, rules)

pub returns-then-use_node : goal.returns-then-use_node
returns-then-use_node c =
    let e = c.items-x-items.ensures in
    let h : c.loop-x.x-index < length (items c.args.line.now) = omega (arith, ap length e) in
    marking_twice _ _ _ _ _ _ c.loop-x.invariant _ _ h c.slot.ensures (ap (λ (l : List ℕ). get_or l c.loop-x.x-index 0) e) _ _ c.use_node.ensures c.if-use_node.true

pub loop-x-preserved : goal.loop-x-preserved
loop-x-preserved c =
    let e = c.items-x-items.ensures in
    let h : c.loop-x.x-index < length (items c.args.line.now) = omega (arith, ap length e) in
    marking_on _ _ _ _ _ _ c.loop-x.invariant _ _ h c.slot.ensures (ap (λ (l : List ℕ). get_or l c.loop-x.x-index 0) e) _ _ c.use_node.ensures c.if-use_node.false c.use_node.auto.work _ c.after-places.ensures

pub returns : goal.returns
returns c = marking_end _ _ _ _ _ _ c.loop-x.invariant (omega (arith, ap length c.items-x-items.ensures))
