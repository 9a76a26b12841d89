-- `lookup::find_entity` meets its contract. Assumes nothing.
use Rattle.lookup.proofs.Finds.{walk_start, walk_end, walk_hit, walk_on}
use borrow.Author.Rules.{rules}
use Rattle.lookup.proofs.find_entity.Goals as goal

pub loop-i-init : goal.loop-i-init
loop-i-init c = search (walk_start, rules)

pub loop-i-preserved : goal.loop-i-preserved
loop-i-preserved c = search (walk_on, rules)

pub returns : goal.returns
returns c = search (walk_end, rules)

pub returns-then-is_entity : goal.returns-then-is_entity
returns-then-is_entity c = search (walk_hit, rules)
