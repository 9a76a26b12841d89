-- `agree::key_break` meets its contract. Assumes nothing.
use Rattle.agree.proofs.Keys.{text_key, value_key, entity_key, request_key, same_key}
use borrow.Author.Rules.{rules}
use Rattle.agree.proofs.key_break.Goals as goal

pub returns-then-key-eq-TEXT : goal.returns-then-key-eq-TEXT
returns-then-key-eq-TEXT c = search (text_key, rules)

pub returns-then-key-eq-VALUE : goal.returns-then-key-eq-VALUE
returns-then-key-eq-VALUE c = search (value_key, rules)

pub returns-then-key-eq-ENTITY : goal.returns-then-key-eq-ENTITY
returns-then-key-eq-ENTITY c = search (entity_key, rules)

pub returns-then-is_request : goal.returns-then-is_request
returns-then-is_request c = search (request_key, rules)

pub returns : goal.returns
returns c = search (same_key, rules)
