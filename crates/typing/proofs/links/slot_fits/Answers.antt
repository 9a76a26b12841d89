-- `slot_fits`: one law for each answer.
use Rattle.typing.proofs.LinkLaws.{slot_none, slot_some}
use Rattle.typing.proofs.links.slot_fits.Goals as goal

pub returns-then-tag-ne-SLOT : goal.returns-then-tag-ne-SLOT
returns-then-tag-ne-SLOT c = search slot_none

pub returns : goal.returns
returns c = search slot_some
