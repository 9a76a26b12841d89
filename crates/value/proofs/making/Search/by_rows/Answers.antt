-- `value::making::Search::by_rows` meets its contract. Assumes nothing.
use Rattle.value.proofs.Makes.{rows_start, find_end, find_hit, find_on}
use borrow.Author.Rules.{rules}
use Rattle.value.proofs.making.Search.by_rows.Goals as goal

pub loop-i-init : goal.loop-i-init
loop-i-init c = search (rows_start, rules)

pub loop-i-preserved : goal.loop-i-preserved
loop-i-preserved c = search (find_on, rules)

pub returns : goal.returns
returns c = search (find_end, rules)

pub returns-then-eq : goal.returns-then-eq
returns-then-eq c = search (find_hit, rules)
