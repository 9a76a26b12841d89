-- `last_rules`: the operation by its number.
use Rattle.typing.proofs.Operations.{op_at, op_slot}
use Rattle.typing.specs.Rules.{node_rule, node_rules}
use Rattle.forms.specs.Tags.{ALL, ANY, IF, IS, LIKE, GET, HAS, HASPATH, NOT, NEG, EMPTY, SET_OF, RECORD_OF}
use borrow.Author.Rules.{rules}
use Rattle.typing.proofs.nodes.last_rules.Goals as goal

pub returns-in-36 : goal.returns-in-36
unfolding node_rule node_rules
returns-in-36 c = search (op_at ALL, rules)

pub returns-in-37 : goal.returns-in-37
unfolding node_rule node_rules
returns-in-37 c = search (op_at ANY, rules)

pub returns-in-38 : goal.returns-in-38
unfolding node_rule node_rules
returns-in-38 c = search (op_at IF, rules)

pub returns-in-39 : goal.returns-in-39
unfolding node_rule node_rules
returns-in-39 c = search (op_at IS, rules)

pub returns-in-40 : goal.returns-in-40
unfolding node_rule node_rules
returns-in-40 c = search (op_at LIKE, rules)

pub returns-in-41 : goal.returns-in-41
unfolding node_rule node_rules
returns-in-41 c = search (op_at GET, rules)

pub returns-in-42 : goal.returns-in-42
unfolding node_rule node_rules
returns-in-42 c = search (op_at HAS, rules)

pub returns-in-43 : goal.returns-in-43
unfolding node_rule node_rules
returns-in-43 c = search (op_at HASPATH, rules)

pub returns-in-44 : goal.returns-in-44
unfolding node_rule node_rules
returns-in-44 c = search (op_at NOT, rules)

pub returns-in-45 : goal.returns-in-45
unfolding node_rule node_rules
returns-in-45 c = search (op_at NEG, rules)

pub returns-in-46 : goal.returns-in-46
unfolding node_rule node_rules
returns-in-46 c = search (op_at EMPTY, rules)

pub returns-in-47 : goal.returns-in-47
unfolding node_rule node_rules
returns-in-47 c = search (op_at SET_OF, rules)

pub returns-in-48 : goal.returns-in-48
unfolding node_rule node_rules
returns-in-48 c = search (op_at RECORD_OF, rules)

pub returns-in_default : goal.returns-in_default
returns-in_default c = search op_slot
