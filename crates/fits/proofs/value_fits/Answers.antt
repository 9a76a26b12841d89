-- `value_fits`: at the whole depth both ends of the answer meet.
use Rattle.fits.proofs.Search.{answered}
use Rattle.fits.proofs.value_fits.Goals as goal

pub returns : goal.returns
returns c = search answered
