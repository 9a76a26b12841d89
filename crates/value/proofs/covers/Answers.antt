-- `value::covers` meets its contract. Assumes nothing.
use Rattle.value.proofs.Lists.{covers_off, covers_on}
use borrow.Author.Rules.{rules}
use Rattle.value.proofs.covers.Goals as goal

pub loop-v-preserved : goal.loop-v-preserved
loop-v-preserved c = search (covers_on, rules)

pub returns-then-not-stands : goal.returns-then-not-stands
returns-then-not-stands c = search (covers_off, rules)
