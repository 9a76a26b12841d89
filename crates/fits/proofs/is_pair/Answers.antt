-- `is_pair`: both numbers are small.
use Rattle.fits.proofs.Remembered.{pair_in, pair_out}
use Rattle.fits.proofs.is_pair.Goals as goal

pub returns-then-value-lt1024 : goal.returns-then-value-lt1024
returns-then-value-lt1024 c = search pair_in

pub returns : goal.returns
returns c = search pair_out
