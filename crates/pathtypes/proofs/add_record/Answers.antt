-- `add_record`: one law for each answer.
use Rattle.pathtypes.proofs.PathSets.{record_not, record_joins}
use Rattle.pathtypes.proofs.add_record.Goals as goal

pub returns-then-not-is_record : goal.returns-then-not-is_record
returns-then-not-is_record c = search record_not

pub returns : goal.returns
returns c = search record_joins
