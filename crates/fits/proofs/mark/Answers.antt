-- `mark`: the pair's bit is set, if there is one.
use Rattle.fits.proofs.Remembered.{mark_in, mark_out}
use Rattle.fits.proofs.mark.Goals as goal

pub returns-then-is_pair : goal.returns-then-is_pair
returns-then-is_pair c = search mark_in

pub returns-else-is_pair : goal.returns-else-is_pair
returns-else-is_pair c = search mark_out
