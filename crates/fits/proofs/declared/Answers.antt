-- `declared`: what is left of the type decides.
use Rattle.fits.proofs.Walks.{declared_start}
use Rattle.fits.proofs.declared.Goals as goal

pub loop-rest-init : goal.loop-rest-init
loop-rest-init c = search declared_start
