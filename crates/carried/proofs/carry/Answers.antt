-- `carried::carry` meets its contract. Assumes nothing.
use Rattle.carried.proofs.Carrying.{carry_start, carry_more, carry_end}
use borrow.Author.Rules.{rules}
use Rattle.carried.proofs.carry.Goals as goal

pub loop-i-init : goal.loop-i-init
loop-i-init c = search (carry_start, rules)

pub loop-i-preserved : goal.loop-i-preserved
loop-i-preserved c = search (carry_more, rules)

pub returns : goal.returns
returns c = search (carry_end, rules)
