-- `key_typed`: one law for each key.
use Rattle.typing.proofs.KeyRules.{key_action, key_free, key_policy, key_principal, key_resource, key_shape}
use Rattle.typing.proofs.lines.key_typed.Goals as goal

pub returns-in-4 : goal.returns-in-4
returns-in-4 c = search key_shape

pub returns-in-7 : goal.returns-in-7
returns-in-7 c = search key_principal

pub returns-in-8 : goal.returns-in-8
returns-in-8 c = search key_action

pub returns-in-9 : goal.returns-in-9
returns-in-9 c = search key_resource

pub returns-in-13 : goal.returns-in-13
returns-in-13 c = search key_policy

pub returns-in_default : goal.returns-in_default
returns-in_default c = search key_free
