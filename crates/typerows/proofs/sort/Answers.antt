-- `sort`: by the tag.
use Rattle.typerows.proofs.Typings.{sort_high, sort_low, sort_mid}
use Rattle.typerows.proofs.sort.Goals as goal

pub returns-then-k-lt-LONG_TYPE : goal.returns-then-k-lt-LONG_TYPE
returns-then-k-lt-LONG_TYPE c = search sort_low

pub returns-then-k-gt-RECORD_TYPE : goal.returns-then-k-gt-RECORD_TYPE
returns-then-k-gt-RECORD_TYPE c = search sort_high

pub returns : goal.returns
returns c = search sort_mid
