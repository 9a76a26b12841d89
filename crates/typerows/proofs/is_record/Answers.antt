-- `is_record`: by the tag.
use Rattle.typerows.proofs.Typings.{record_test}
use Rattle.typerows.proofs.is_record.Goals as goal

pub returns : goal.returns
returns c = search record_test
