-- `words::store` meets its contract. Assumes nothing.
use Rattle.words.proofs.Stores.{storing_start, storing_on, storing_full, storing_end}
use borrow.Author.Rules.{rules}
use Rattle.words.proofs.store.Goals as goal

pub loop-item-init : goal.loop-item-init
loop-item-init t c = search (storing_start, rules)

pub returns-then-k-items : goal.returns-then-k-items
returns-then-k-items t c = search (storing_full, rules)

pub loop-item-preserved : goal.loop-item-preserved
loop-item-preserved t c = search (storing_on, rules)

pub returns : goal.returns
returns t c = search (storing_end, rules)
