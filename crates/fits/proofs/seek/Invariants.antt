-- `seek`: what is passed is below.
use Rattle.std.proofs.Common.{length}
use Rattle.fits.proofs.Walks.{Seeks}
use Rattle.fits.proofs.seek.Given as goal

abbrev pub invariant-loop-rest : goal.invariant-loop-rest
invariant-loop-rest l = Seeks l.place l.text l.rest

abbrev pub decreases-loop-rest : goal.decreases-loop-rest
decreases-loop-rest l = length l.rest
