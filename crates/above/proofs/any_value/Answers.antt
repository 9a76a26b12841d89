-- `above::any_value` meets its contract. Assumes nothing.
use Rattle.reach.proofs.Steps.{asked_end, asked_no, asked_yes, asking_start}
use Rattle.typing.proofs.SeenSets.{above_set}
use borrow.Author.Rules.{rules}
use Rattle.above.proofs.any_value.Goals as goal

pub loop-i-init : goal.loop-i-init
loop-i-init c = (search (asking_start, rules), search above_set, search rules)

pub returns-then-unfit_value : goal.returns-then-unfit_value
returns-then-unfit_value c = search (asked_yes, rules)

pub loop-i-preserved : goal.loop-i-preserved
loop-i-preserved c = (search (asked_no, rules), search rules, search rules)

pub returns : goal.returns
returns c = search (asked_end, rules)
