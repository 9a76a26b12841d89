-- `tpe::steps::rule_one` meets its contract. Assumes nothing.
use Rattle.tpe.proofs.Operated.{rules_is, rules_has, rules_none}
use Rattle.tpe.proofs.steps.rule_one.Goals as goal

pub returns-then-tag-le-IS : goal.returns-then-tag-le-IS
returns-then-tag-le-IS c = search rules_is

pub returns-then-tag-eq-HAS : goal.returns-then-tag-eq-HAS
returns-then-tag-eq-HAS c = search rules_has

pub returns : goal.returns
returns c = search rules_none
