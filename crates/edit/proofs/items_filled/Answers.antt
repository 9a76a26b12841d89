-- `edit::items_filled` meets its contract. Assumes nothing.
use Rattle.edit.proofs.Filling.{filling_other, filling_end, filling_more, filling_on}
use borrow.Author.Rules.{rules}
use Rattle.edit.proofs.items_filled.Goals as goal

pub returns-then-not-may_become : goal.returns-then-not-may_become
returns-then-not-may_become c = search (filling_other, rules)

pub returns-then-e-old : goal.returns-then-e-old
returns-then-e-old c = search (filling_end, rules)

pub returns-then-f-new : goal.returns-then-f-new
returns-then-f-new c = search (filling_more, rules)

pub loop-i-preserved : goal.loop-i-preserved
loop-i-preserved c = search (filling_on, rules)
