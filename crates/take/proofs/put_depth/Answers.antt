-- `take::put_depth` meets its contract. Assumes nothing.
use Rattle.take.proofs.Committing.{put_type, put_value, put_node, put_leaf}
use borrow.Author.Rules.{rules}
use Rattle.take.proofs.put_depth.Goals as goal

pub returns-then-key-eq-TYPE : goal.returns-then-key-eq-TYPE
returns-then-key-eq-TYPE c = search (put_type, rules)

pub returns-then-key-eq-VALUE : goal.returns-then-key-eq-VALUE
returns-then-key-eq-VALUE c = search (put_value, rules)

pub returns-then-key-eq-NODE : goal.returns-then-key-eq-NODE
returns-then-key-eq-NODE c = search (put_node, rules)

pub returns-else-key-eq-NODE : goal.returns-else-key-eq-NODE
returns-else-key-eq-NODE c = search (put_leaf, rules)
