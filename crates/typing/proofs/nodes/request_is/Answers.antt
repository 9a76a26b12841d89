-- `request_is`: one law for each answer.
use Rattle.typing.proofs.Rulings.{request_no, request_group, request_yes}
use Rattle.typing.proofs.nodes.request_is.Goals as goal

pub returns-then-tag-ne-ENTITY_TYPE : goal.returns-then-tag-ne-ENTITY_TYPE
returns-then-tag-ne-ENTITY_TYPE c = search request_no

pub returns-then-q-gt2 : goal.returns-then-q-gt2
returns-then-q-gt2 c = search request_group

pub returns : goal.returns
returns c = search request_yes
