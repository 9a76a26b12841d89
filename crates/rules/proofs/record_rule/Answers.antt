-- `record_rule`: by what is declared.
use Rattle.rules.proofs.Rulings.{record_is}
use Rattle.rules.proofs.record_rule.Goals as goal

pub returns : goal.returns
returns c = search record_is
