-- `type_lacks`: one law for each answer.
use Rattle.rules.proofs.Rulings.{found_more, lacks_it, lacks_no_record, lacks_not}
use Rattle.std.proofs.Common.{rules}
use Rattle.rules.proofs.type_lacks.Goals as goal

pub returns-in_default : goal.returns-in_default
returns-in_default c = (search (lacks_no_record, c.in_default.ensures), search rules)

pub returns-then-is_some : goal.returns-then-is_some
returns-then-is_some c = (search (lacks_not, c.in-Some.ensures), search rules)

pub returns : goal.returns
returns c = (search (lacks_it, c.in-Some.ensures), search (found_more, c.in-Some.ensures))
