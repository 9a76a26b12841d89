-- `tpe::steps::rule_two` meets its contract. Assumes nothing.
use Rattle.tpe.proofs.Operated.{rules_eq, rules_in, rules_hastag, rules_silent}
use Rattle.tpe.proofs.steps.rule_two.Goals as goal

pub returns-then-tag-le-EQ : goal.returns-then-tag-le-EQ
returns-then-tag-le-EQ c = search rules_eq

pub returns-in-32 : goal.returns-in-32
returns-in-32 c = search rules_in

pub returns-in-34 : goal.returns-in-34
returns-in-34 c = search rules_hastag

pub returns-in_default : goal.returns-in_default
returns-in_default c = search rules_silent
