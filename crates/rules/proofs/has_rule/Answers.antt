-- `has_rule`: by the sort of the type.
use Rattle.rules.proofs.Rulings.{has_kinds, has_other, has_record}
use Rattle.rules.proofs.has_rule.Goals as goal

pub returns-then-tag-eq-ENTITY_TYPE : goal.returns-then-tag-eq-ENTITY_TYPE
returns-then-tag-eq-ENTITY_TYPE c = search has_kinds

pub returns-in_err-record_of : goal.returns-in_err-record_of
returns-in_err-record_of c = search (has_other, c.in_err-record_of.ensures)

pub returns : goal.returns
returns c = search (has_record, c.in_ok-record_of.ensures)
