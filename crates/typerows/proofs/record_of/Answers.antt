-- `record_of`: by the tag.
use Rattle.typerows.proofs.Typings.{record_is, record_not}
use Rattle.typerows.proofs.record_of.Goals as goal

pub returns-then-tag-eq-RECORD_TYPE : goal.returns-then-tag-eq-RECORD_TYPE
returns-then-tag-eq-RECORD_TYPE c = search record_is

pub returns : goal.returns
returns c = search record_not
