-- `var_typed`: one law for each answer.
use Rattle.typing.proofs.Rulings.{var_action, var_context, var_principal, var_resource}
use Rattle.typing.proofs.nodes.var_typed.Goals as goal

pub returns-in-0 : goal.returns-in-0
returns-in-0 c = search var_principal

pub returns-in-1 : goal.returns-in-1
returns-in-1 c = search var_action

pub returns-in-2 : goal.returns-in-2
returns-in-2 c = search var_resource

pub returns-in_default : goal.returns-in_default
returns-in_default c = search var_context
