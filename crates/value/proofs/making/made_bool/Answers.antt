-- `value::making::made_bool` meets its contract. Assumes nothing.
use Rattle.value.proofs.Makes.{rows_start, find_end}
use Rattle.value.proofs.Passes.{turn_hit, turn_on}
use borrow.Author.Rules.{rules}
use Rattle.value.proofs.making.made_bool.Goals as goal

pub loop-i-init : goal.loop-i-init
loop-i-init c = search (rows_start, rules)

pub loop-i-preserved : goal.loop-i-preserved
loop-i-preserved c = search (turn_on, rules)

pub returns : goal.returns
returns c = search (find_end, rules)

pub returns-then-is_bool : goal.returns-then-is_bool
returns-then-is_bool c = search (turn_hit, rules)
