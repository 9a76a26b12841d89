-- `lookup::look_attr` meets its contract. Assumes nothing.
use Rattle.lookup.proofs.Finds.{by_other, by_entity}
use borrow.Author.Rules.{rules}
use Rattle.lookup.proofs.look_attr.Goals as goal

pub returns-in_default : goal.returns-in_default
returns-in_default c = search (by_other, rules)

pub returns : goal.returns
returns c = search (by_entity, rules)
