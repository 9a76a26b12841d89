-- `kinds_place`: one law for each answer.
use Rattle.pathtypes.proofs.PlaceLaws.{place_alone, place_nowhere}
use Rattle.pathtypes.proofs.kinds_place.Goals as goal

pub returns-then-is_record : goal.returns-then-is_record
returns-then-is_record c = search place_alone

pub returns : goal.returns
returns c = search place_nowhere
