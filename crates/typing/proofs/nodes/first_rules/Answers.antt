-- `first_rules`: the operation by its number.
use Rattle.typing.proofs.Operations.{op_at, op_contains}
use Rattle.typing.specs.Rules.{node_rule, node_rules}
use Rattle.forms.specs.Tags.{ERR, VAR, AND, OR, EQ, LT, LE, ADD, SUB, MUL, IN, GETTAG, HASTAG}
use borrow.Author.Rules.{rules}
use Rattle.typing.proofs.nodes.first_rules.Goals as goal

pub returns-in-22 : goal.returns-in-22
unfolding node_rule node_rules
returns-in-22 c = search (op_at ERR, rules)

pub returns-in-23 : goal.returns-in-23
unfolding node_rule node_rules
returns-in-23 c = search (op_at VAR, rules)

pub returns-in-24 : goal.returns-in-24
unfolding node_rule node_rules
returns-in-24 c = search (op_at AND, rules)

pub returns-in-25 : goal.returns-in-25
unfolding node_rule node_rules
returns-in-25 c = search (op_at OR, rules)

pub returns-in-26 : goal.returns-in-26
unfolding node_rule node_rules
returns-in-26 c = search (op_at EQ, rules)

pub returns-in-27 : goal.returns-in-27
unfolding node_rule node_rules
returns-in-27 c = search (op_at LT, rules)

pub returns-in-28 : goal.returns-in-28
unfolding node_rule node_rules
returns-in-28 c = search (op_at LE, rules)

pub returns-in-29 : goal.returns-in-29
unfolding node_rule node_rules
returns-in-29 c = search (op_at ADD, rules)

pub returns-in-30 : goal.returns-in-30
unfolding node_rule node_rules
returns-in-30 c = search (op_at SUB, rules)

pub returns-in-31 : goal.returns-in-31
unfolding node_rule node_rules
returns-in-31 c = search (op_at MUL, rules)

pub returns-in-32 : goal.returns-in-32
unfolding node_rule node_rules
returns-in-32 c = search (op_at IN, rules)

pub returns-in-33 : goal.returns-in-33
unfolding node_rule node_rules
returns-in-33 c = search (op_at GETTAG, rules)

pub returns-in-34 : goal.returns-in-34
unfolding node_rule node_rules
returns-in-34 c = search (op_at HASTAG, rules)

pub returns-in_default : goal.returns-in_default
returns-in_default c = search op_contains
