-- `order::in_order` meets its contract. Assumes nothing.
use Rattle.order.proofs.OrderLaws.{zeros_off, zeros_on, zeros_end, nodes_off, links_off, terms_off, nodes_on}
use borrow.Author.Rules.{rules}
use Rattle.order.proofs.in_order.Goals as goal

pub returns-then-count-ne0 : goal.returns-then-count-ne0
returns-then-count-ne0 c = search (nodes_off, rules)

pub returns-then-count-ne0-2 : goal.returns-then-count-ne0-2
returns-then-count-ne0-2 c = search (links_off, rules)

pub returns-then-count-ne0-3 : goal.returns-then-count-ne0-3
returns-then-count-ne0-3 c = search (terms_off, rules)

pub returns-then-key-eq-NODE : goal.returns-then-key-eq-NODE
returns-then-key-eq-NODE c = search (nodes_on, rules)

pub returns-then-n-ne0 : goal.returns-then-n-ne0
returns-then-n-ne0 c = search (zeros_off, rules)

pub loop-i-preserved : goal.loop-i-preserved
loop-i-preserved c = search (zeros_on, rules)

pub returns : goal.returns
returns c = search (zeros_end, rules)
