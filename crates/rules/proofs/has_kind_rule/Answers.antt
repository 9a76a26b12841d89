-- `has_kind_rule`: by whether the kind lacks it.
use Rattle.rules.proofs.Rulings.{found_none, alone_is}
use Rattle.rules.proofs.has_kind_rule.Goals as goal

pub lacks-requires : goal.lacks-requires
lacks-requires c = search found_none

pub returns : goal.returns
returns c = search alone_is
