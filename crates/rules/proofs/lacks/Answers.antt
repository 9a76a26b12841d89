-- `lacks`: by the type of the kind's attributes.
use Rattle.rules.proofs.Rulings.{lacks_action, lacks_type}
use Rattle.std.proofs.Common.{rules}
use Rattle.rules.proofs.lacks.Goals as goal

pub returns-then-is_action : goal.returns-then-is_action
returns-then-is_action c = (search lacks_action, search rules)

pub returns : goal.returns
returns c = (search lacks_type, search rules)
