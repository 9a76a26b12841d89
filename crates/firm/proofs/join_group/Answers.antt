-- `firm::join_group` meets its contract. Assumes nothing.
use Rattle.firm.proofs.Calling.{join_allows, join_denied, join_takes}
use borrow.Author.Rules.{rules}
use Rattle.firm.proofs.join_group.Goals as goal

pub returns-then-decision-eq-ALLOW : goal.returns-then-decision-eq-ALLOW
returns-then-decision-eq-ALLOW c = search (join_allows, rules)

pub returns-then-group-eq-DENY : goal.returns-then-group-eq-DENY
returns-then-group-eq-DENY c = search (join_denied, rules)

pub returns : goal.returns
returns c = search (join_takes, rules)
