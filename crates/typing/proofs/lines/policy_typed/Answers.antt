-- `policy_typed`: its node is a bool.
use Rattle.typing.proofs.KeyRules.{policy_is}
use Rattle.typing.proofs.lines.policy_typed.Goals as goal

pub returns : goal.returns
returns c = search policy_is
