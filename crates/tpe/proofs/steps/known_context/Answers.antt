-- `tpe::steps::known_context` meets its contract. Assumes nothing.
use Rattle.tpe.proofs.Settling.{context_unknown, context_known}
use Rattle.tpe.proofs.steps.known_context.Goals as goal

pub returns-then-v-eq-MARK : goal.returns-then-v-eq-MARK
returns-then-v-eq-MARK c = search context_unknown

pub returns : goal.returns
returns c = search context_known
