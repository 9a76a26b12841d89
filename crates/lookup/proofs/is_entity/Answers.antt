-- `lookup::is_entity` meets its contract. Assumes nothing.
use Rattle.lookup.proofs.Finds.{entity_far, entity_other, entity_kind, entity_text}
use borrow.Author.Rules.{rules}
use Rattle.lookup.proofs.is_entity.Goals as goal

pub returns-then-not-has_text : goal.returns-then-not-has_text
returns-then-not-has_text c = search (entity_far, rules)

pub returns-in_default : goal.returns-in_default
returns-in_default c = search (entity_other, rules)

pub returns-then-l-kind : goal.returns-then-l-kind
returns-then-l-kind c = search (entity_kind, rules)

pub returns : goal.returns
returns c = search (entity_text, rules)
