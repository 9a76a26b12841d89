-- `firsts::enter` meets its contract. Assumes nothing.
use Rattle.firsts.proofs.Leading.{enter_past, enter_other, enter_far, enter_seen, enter_last}
use borrow.Author.Rules.{rules}
use Rattle.firsts.proofs.enter.Goals as goal

pub returns-then-v-count : goal.returns-then-v-count
returns-then-v-count c = search (enter_past, rules)

pub returns-in_default : goal.returns-in_default
returns-in_default c = enter_other _ _ _ _ c.requires.number_in_bounds c.requires.entered _ c.requires.line_value _ c.item-v.ensures _ _ c.row.ensures c.shape_of-s.ensures (search rules)

pub returns-then-t-seen : goal.returns-then-t-seen
returns-then-t-seen c = search (enter_far, rules)

pub returns-then-read-ne0 : goal.returns-then-read-ne0
returns-then-read-ne0 c = search (enter_seen _ _ _ _ c.requires.number_in_bounds c.requires.entered _ c.requires.line_value _ c.item-v.ensures _ _ c.row.ensures c.shape_of-s.ensures, rules)

pub returns : goal.returns
returns c = search (enter_last _ _ _ _ c.requires.number_in_bounds c.requires.entered _ c.requires.line_value _ c.item-v.ensures _ _ c.row.ensures c.shape_of-s.ensures _ _ c.if-t-seen.false c.read.ensures c.if-read-ne0.false _ _ _ _ c.count.ensures c.if-v-count.false c.put.ensures c.item.ensures c.keep_source.ensures, rules)
