-- `is_rule`: one law for each answer.
use Rattle.rules.proofs.Rulings.{is_other, is_sole, is_among, is_absent}
use Rattle.rules.proofs.is_rule.Goals as goal

pub returns-then-tag-ne-ENTITY_TYPE : goal.returns-then-tag-ne-ENTITY_TYPE
returns-then-tag-ne-ENTITY_TYPE c = search is_other

pub returns-then-q-lt3 : goal.returns-then-q-lt3
returns-then-q-lt3 c = search is_sole

pub returns-then-has_kind : goal.returns-then-has_kind
returns-then-has_kind c = search is_among

pub returns : goal.returns
returns c = search is_absent
