-- `lookup::nearer` meets its contract. Assumes nothing.
use Rattle.lookup.proofs.Halving.{near_none, near_later, near_before}
use borrow.Author.Rules.{rules}
use Rattle.lookup.proofs.nearer.Goals as goal

pub returns-then-later-count : goal.returns-then-later-count
returns-then-later-count c = search (near_none, rules)

pub returns-then-item-value : goal.returns-then-item-value
returns-then-item-value c = let e = c.args in
    let n = c.count in
    let r = c.row in
    let x = c.item in
    near_later e.rows.now e.value e.line e.later n.result n.ensures c.if-later-count.false r.result.now r.ensures x.result x.ensures c.if-item-value.true

pub returns : goal.returns
returns c = search (near_before, rules)
