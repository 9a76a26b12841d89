-- `seek`: what is passed is below.
use Rattle.fits.proofs.Walks.{seek_hit, seek_on}
use Rattle.fits.proofs.seek.Goals as goal

pub returns-then-name-text : goal.returns-then-name-text
returns-then-name-text c = search seek_hit

pub loop-rest-preserved : goal.loop-rest-preserved
loop-rest-preserved c = search seek_on
