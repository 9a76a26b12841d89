-- `strict::entity::in_unknown` meets its contract. Assumes nothing.
use Rattle.strict.proofs.Entities.{unknown_here, unknown_none, unknown_stays}
use borrow.Author.Rules.{rules}
use Rattle.strict.proofs.entity.in_unknown.Goals as goal

pub returns-then-contains : goal.returns-then-contains
returns-then-contains c = search (unknown_here, rules)

pub returns-then-list-eq0 : goal.returns-then-list-eq0
returns-then-list-eq0 c = search (unknown_none, rules)

pub returns : goal.returns
returns c = search (unknown_stays, rules)
