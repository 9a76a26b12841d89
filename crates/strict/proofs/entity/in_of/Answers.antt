-- `strict::entity::in_of` meets its contract. Assumes nothing.
use Rattle.strict.proofs.Entities.{in_first, in_entity, in_mixed, in_set, in_other}
use borrow.Author.Rules.{rules}
use Rattle.strict.proofs.entity.in_of.Goals as goal

pub returns-in_default : goal.returns-in_default
returns-in_default c = search (in_first, in_entity, in_mixed, in_set, in_other, rules)

pub returns-then-not-all_entities : goal.returns-then-not-all_entities
returns-then-not-all_entities c = search (in_first, in_entity, in_mixed, in_set, in_other, rules)

pub returns-in-Entity-d : goal.returns-in-Entity-d
returns-in-Entity-d c = search (in_first, in_entity, in_mixed, in_set, in_other, rules)

pub returns-else-not-all_entities : goal.returns-else-not-all_entities
returns-else-not-all_entities c = search (in_first, in_entity, in_mixed, in_set, in_other, rules)

pub returns-in_default-d : goal.returns-in_default-d
returns-in_default-d c = search (in_first, in_entity, in_mixed, in_set, in_other, rules)
