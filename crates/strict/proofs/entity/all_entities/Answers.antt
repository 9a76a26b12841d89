-- `strict::entity::all_entities` meets its contract. Assumes nothing.
use Rattle.strict.proofs.Entities.{ents_off, ents_on}
use borrow.Author.Rules.{rules}
use Rattle.strict.proofs.entity.all_entities.Goals as goal

pub loop-v-preserved : goal.loop-v-preserved
loop-v-preserved c = search (ents_on, rules)

pub returns-then-not-is_one : goal.returns-then-not-is_one
returns-then-not-is_one c = search (ents_off, rules)
