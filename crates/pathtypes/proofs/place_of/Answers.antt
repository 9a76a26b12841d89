-- `place_of`: by the tag.
use Rattle.pathtypes.proofs.PlaceLaws.{placed_record, placed_kinds, placed_nowhere}
use Rattle.pathtypes.proofs.place_of.Goals as goal

pub returns-in-8 : goal.returns-in-8
returns-in-8 c = search placed_record

pub returns-in-6 : goal.returns-in-6
returns-in-6 c = search placed_kinds

pub returns-in_default : goal.returns-in_default
returns-in_default c = search placed_nowhere
