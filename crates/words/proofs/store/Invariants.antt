-- `words::store` meets its contract. Assumes nothing.
use Rattle.words.proofs.Stores.{Storing}
use Rattle.words.proofs.store.Given as goal

abbrev pub invariant-loop-item : goal.invariant-loop-item
invariant-loop-item t l = Storing l.row l.initial.items l.at l.items l.k l.item-index
