-- `laid::move_places` meets its contract. Assumes nothing.
use Rattle.laid.proofs.Copying.{keys_start, keys_on, keys_end}
use borrow.Author.Rules.{rules}
use Rattle.laid.proofs.move_places.Goals as goal

pub loop-key-init : goal.loop-key-init
loop-key-init c = search (keys_start, rules)

pub loop-key-preserved : goal.loop-key-preserved
loop-key-preserved c = search (keys_on, rules)

pub returns : goal.returns
returns c = search (keys_end, rules)
