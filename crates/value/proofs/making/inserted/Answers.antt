-- `value::making::inserted` meets its contract. Assumes nothing.
use Rattle.value.proofs.Inserts.{inserting_start, inserting_end, inserting_on}
use borrow.Author.Rules.{rules}
use Rattle.value.proofs.making.inserted.Goals as goal

pub loop-i-init : goal.loop-i-init
loop-i-init c = search (inserting_start, rules)

pub loop-i-preserved : goal.loop-i-preserved
loop-i-preserved c = search (inserting_on, rules)

pub returns : goal.returns
returns c = search (inserting_end, rules)
