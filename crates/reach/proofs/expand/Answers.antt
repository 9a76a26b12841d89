-- `reach::expand` meets its contract. Assumes nothing.
use Rattle.reach.proofs.Steps.{expand_new, expand_old}
use borrow.Author.Rules.{rules}
use Rattle.reach.proofs.expand.Goals as goal

pub returns-then-item_or-ne0 : goal.returns-then-item_or-ne0
returns-then-item_or-ne0 c = search (expand_old, rules)

pub returns : goal.returns
returns c = let g = c in
    let l = g in
    let p = l in
    let b = p in
    let s = b in
    expand_new _ _ _ _ _ _ _ s.requires.queue s.requires.spot s.requires.spread _ b.item_or.ensures _ _ _ _ _ _ p.put.ensures l.parents_in.ensures g.see.ensures
