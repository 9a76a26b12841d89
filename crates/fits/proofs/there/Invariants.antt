-- `there`: what is left of the record decides.
use Rattle.std.proofs.Common.{length}
use Rattle.fits.proofs.Walks.{There}
use Rattle.fits.proofs.there.Given as goal

abbrev pub invariant-loop-rest : goal.invariant-loop-rest
invariant-loop-rest l = There l.line l.text l.rest

abbrev pub decreases-loop-rest : goal.decreases-loop-rest
decreases-loop-rest l = length l.rest
