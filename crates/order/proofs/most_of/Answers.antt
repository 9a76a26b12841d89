-- `order::most_of` meets its contract. Assumes nothing.
use Rattle.order.proofs.OrderLaws.{most_shape, most_row}
use borrow.Author.Rules.{rules}
use Rattle.order.proofs.most_of.Goals as goal

pub returns-then-key-eq-SHAPE : goal.returns-then-key-eq-SHAPE
returns-then-key-eq-SHAPE c = search (most_shape, rules)

pub returns-then-key-lt-NO_KEY : goal.returns-then-key-lt-NO_KEY
returns-then-key-lt-NO_KEY c = search (most_row, rules)
