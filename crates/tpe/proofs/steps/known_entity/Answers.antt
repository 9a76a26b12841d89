-- `tpe::steps::known_entity` meets its contract. Assumes nothing.
use Rattle.tpe.proofs.Settling.{entity_unknown, entity_known_law}
use Rattle.tpe.proofs.steps.known_entity.Goals as goal

pub returns-then-text-eq-MARK : goal.returns-then-text-eq-MARK
returns-then-text-eq-MARK c = search entity_unknown

pub returns : goal.returns
returns c = search entity_known_law
