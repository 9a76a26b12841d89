-- `reach::place_of` meets its contract. Assumes nothing.
use Rattle.reach.proofs.Steps.{place_end, place_hit, place_on}
use borrow.Author.Rules.{rules}
use Rattle.reach.proofs.place_of.Goals as goal

pub returns-then-item-value : goal.returns-then-item-value
returns-then-item-value c = search (place_hit, rules)

pub loop-i-preserved : goal.loop-i-preserved
loop-i-preserved c = search (place_on, rules)

pub returns : goal.returns
returns c = search (place_end, rules)
