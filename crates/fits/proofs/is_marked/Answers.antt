-- `is_marked`: the pair's bit.
use Rattle.fits.proofs.Remembered.{marked_is, marked_out}
use Rattle.fits.proofs.is_marked.Goals as goal

pub returns-then-is_pair : goal.returns-then-is_pair
returns-then-is_pair c = search marked_is

pub returns : goal.returns
returns c = search marked_out
