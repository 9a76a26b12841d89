-- `complete`: what is left of the type decides.
use Rattle.std.proofs.Common.{length}
use Rattle.fits.specs.Fit.{Within}
use Rattle.fits.proofs.Walks.{Completes}
use Rattle.fits.proofs.complete.Given as goal

abbrev pub invariant-loop-rest : goal.invariant-loop-rest
invariant-loop-rest l = Completes l.value_row l.type_row l.rest × Within l.value_row l.place

abbrev pub decreases-loop-rest : goal.decreases-loop-rest
decreases-loop-rest l = length l.rest
