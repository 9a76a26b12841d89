-- `interpret::slot` meets its contract. Assumes nothing.
use Rattle.interpret.proofs.Laws.{slot_is}
use Rattle.interpret.proofs.slot.Goals as goal

pub returns : goal.returns
returns c = search slot_is
