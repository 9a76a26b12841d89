-- `laid::move_rows` meets its contract. Assumes nothing.
use Rattle.laid.proofs.Copying.{moving_start, moving_on, moving_end}
use borrow.Author.Rules.{rules}
use Rattle.laid.proofs.move_rows.Goals as goal

pub loop-i-init : goal.loop-i-init
loop-i-init c = search (moving_start, rules)

pub loop-i-preserved : goal.loop-i-preserved
loop-i-preserved c = search (moving_on, rules)

pub returns : goal.returns
returns c = search (moving_end, rules)
