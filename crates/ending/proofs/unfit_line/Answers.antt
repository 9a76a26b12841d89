-- `ending::unfit_line` meets its contract. Assumes nothing.
use Rattle.ending.proofs.Entities.{unfit_known, unfit_empty, unfit_entity, unfit_none, unfit_first}
use borrow.Author.Rules.{rules}
use Rattle.ending.proofs.unfit_line.Goals as goal

pub returns-then-count-ne0 : goal.returns-then-count-ne0
returns-then-count-ne0 c = search (unfit_known, rules)

pub returns-then-n-eq0 : goal.returns-then-n-eq0
returns-then-n-eq0 c = search (unfit_empty, rules)

pub returns-then-begins_entity : goal.returns-then-begins_entity
returns-then-begins_entity c = search (unfit_entity, rules)

pub returns-then-u-n : goal.returns-then-u-n
returns-then-u-n c = search (unfit_none, rules)

pub returns : goal.returns
returns c = search (unfit_first, rules)
