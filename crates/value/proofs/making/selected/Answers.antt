-- `value::making::selected` meets its contract. Assumes nothing.
use Rattle.value.proofs.Fills.{fill_start, fill_end, fill_less, fill_on}
use borrow.Author.Rules.{rules}
use Rattle.value.proofs.making.selected.Goals as goal

pub loop-x-init : goal.loop-x-init
loop-x-init c = search (fill_start, rules)

pub loop-x-smaller : goal.loop-x-smaller
loop-x-smaller c = search (fill_less, rules)

pub loop-x-preserved : goal.loop-x-preserved
loop-x-preserved c = search (fill_on, rules)

pub returns : goal.returns
returns c = search (fill_end, rules)
