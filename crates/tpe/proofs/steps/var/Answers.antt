-- `tpe::steps::var` meets its contract. Assumes nothing.
use Rattle.tpe.proofs.Settling.{var_principal, var_action, var_resource, var_context}
use Rattle.tpe.proofs.steps.var.Goals as goal

pub returns-in-0 : goal.returns-in-0
returns-in-0 c = search var_principal

pub returns-in-1 : goal.returns-in-1
returns-in-1 c = search var_action

pub returns-in-2 : goal.returns-in-2
returns-in-2 c = search var_resource

pub returns-in_default : goal.returns-in_default
returns-in_default c = search var_context
