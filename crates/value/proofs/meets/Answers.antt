-- `value::meets` meets its contract. Assumes nothing.
use Rattle.value.proofs.Lists.{meets_hit, meets_on}
use borrow.Author.Rules.{rules}
use Rattle.value.proofs.meets.Goals as goal

pub loop-v-preserved : goal.loop-v-preserved
loop-v-preserved c = search (meets_on, rules)

pub returns-then-stands : goal.returns-then-stands
returns-then-stands c = search (meets_hit, rules)
