-- `evaluator::entity_of` meets its contract. Assumes nothing.
use Rattle.evaluator.proofs.Settles.{entity_unknown, entity_made}
use Rattle.evaluator.proofs.entity_of.Goals as goal

pub returns-then-text-eq-MARK : goal.returns-then-text-eq-MARK
returns-then-text-eq-MARK c = search entity_unknown

pub returns : goal.returns
returns c = search entity_made
