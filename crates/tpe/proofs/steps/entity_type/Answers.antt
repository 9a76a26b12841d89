-- `tpe::steps::entity_type` meets its contract. Assumes nothing.
use Rattle.tpe.proofs.Walks.{seek_start, seek_end, seek_hit, seek_on}
use borrow.Author.Rules.{rules}
use Rattle.tpe.proofs.steps.entity_type.Goals as goal

pub loop-i-init : goal.loop-i-init
loop-i-init c = search (seek_start, rules)

pub loop-i-preserved : goal.loop-i-preserved
loop-i-preserved c = search (seek_on, rules)

pub returns : goal.returns
returns c = search (seek_end, rules)

pub returns-then-eq : goal.returns-then-eq
returns-then-eq c = search (seek_hit, rules)
