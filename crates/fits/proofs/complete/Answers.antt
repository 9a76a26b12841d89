-- `complete`: what is left of the type decides.
use Rattle.fits.proofs.Walks.{complete_off, complete_on, complete_start, within_after, within_start}
use Rattle.fits.proofs.complete.Goals as goal

pub loop-rest-init : goal.loop-rest-init
loop-rest-init c = (search complete_start, search within_start)

pub returns-then-not-meets : goal.returns-then-not-meets
returns-then-not-meets c = search complete_off

pub loop-rest-preserved : goal.loop-rest-preserved
loop-rest-preserved c = (search complete_on, search within_after)
