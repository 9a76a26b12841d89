-- `bool_fits`: by the tag.
use Rattle.fits.proofs.Sorts.{bool_high, bool_low, bool_mid}
use Rattle.fits.proofs.bool_fits.Goals as goal

pub returns-then-k-lt-LONG_VALUE : goal.returns-then-k-lt-LONG_VALUE
returns-then-k-lt-LONG_VALUE c = search bool_low

pub returns-then-k-le-RECORD_VALUE : goal.returns-then-k-le-RECORD_VALUE
returns-then-k-le-RECORD_VALUE c = search bool_mid

pub returns : goal.returns
returns c = search bool_high
