-- `eq_rule`: one law for each answer.
use Rattle.rules.proofs.Rulings.{eq_left, eq_right, eq_shared, eq_apart}
use Rattle.rules.proofs.eq_rule.Goals as goal

pub returns-then-tag-ne-ENTITY_TYPE : goal.returns-then-tag-ne-ENTITY_TYPE
returns-then-tag-ne-ENTITY_TYPE c = search eq_left

pub returns-then-tag-ne-ENTITY_TYPE-2 : goal.returns-then-tag-ne-ENTITY_TYPE-2
returns-then-tag-ne-ENTITY_TYPE-2 c = search eq_right

pub returns-then-share_kind : goal.returns-then-share_kind
returns-then-share_kind c = search eq_shared

pub returns : goal.returns
returns c = search eq_apart
