-- `agree::key_lacks` meets its contract. Assumes nothing.
use Rattle.agree.proofs.Keys.{entity_lack, request_lack, other_lack}
use borrow.Author.Rules.{rules}
use Rattle.agree.proofs.key_lacks.Goals as goal

pub returns-then-key-eq-ENTITY : goal.returns-then-key-eq-ENTITY
returns-then-key-eq-ENTITY c = search (entity_lack, rules)

pub returns-then-is_request : goal.returns-then-is_request
returns-then-is_request c = search (request_lack, rules)

pub returns : goal.returns
returns c = search (other_lack, rules)
