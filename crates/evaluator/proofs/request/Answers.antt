-- `evaluator::request` meets its contract. Assumes nothing.
use Rattle.evaluator.proofs.Settles.{ask_principal, ask_action, ask_resource, ask_unknown, ask_context}
use Rattle.evaluator.proofs.request.Goals as goal

pub returns-then-value-eq-MARK : goal.returns-then-value-eq-MARK
returns-then-value-eq-MARK c = search ask_unknown

pub returns-in-0 : goal.returns-in-0
returns-in-0 c = search ask_principal

pub returns-in-1 : goal.returns-in-1
returns-in-1 c = search ask_action

pub returns-in-2 : goal.returns-in-2
returns-in-2 c = search ask_resource

pub returns-else-value-eq-MARK : goal.returns-else-value-eq-MARK
returns-else-value-eq-MARK c = search ask_context
