-- `in_rule`: one law for each answer.
use Rattle.rules.proofs.Rulings.{in_left, in_right, in_pair, in_apart}
use Rattle.rules.proofs.in_rule.Goals as goal

pub returns-then-tag-ne-ENTITY_TYPE : goal.returns-then-tag-ne-ENTITY_TYPE
returns-then-tag-ne-ENTITY_TYPE c = search in_left

pub returns-then-tag-ne-ENTITY_TYPE-2 : goal.returns-then-tag-ne-ENTITY_TYPE-2
returns-then-tag-ne-ENTITY_TYPE-2 c = search in_right

pub returns-then-some_pair : goal.returns-then-some_pair
returns-then-some_pair c = search in_pair

pub returns : goal.returns
returns c = search in_apart
