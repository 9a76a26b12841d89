-- `there`: what is left of the record decides.
use Rattle.fits.proofs.Walks.{there_start}
use Rattle.fits.proofs.there.Goals as goal

pub loop-rest-init : goal.loop-rest-init
loop-rest-init c = search there_start
