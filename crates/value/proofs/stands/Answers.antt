-- `value::stands` meets its contract. Assumes nothing.
use Rattle.value.proofs.Lists.{stands_above}
use borrow.Author.Rules.{rules}
use Rattle.value.proofs.stands.Goals as goal

pub returns-then-value-x-2 : goal.returns-then-value-x-2
returns-then-value-x-2 c = search (stands_above, rules)
