-- `declared`: what is left of the type decides.
use Rattle.std.proofs.Common.{length}
use Rattle.fits.proofs.Walks.{Declares}
use Rattle.fits.proofs.declared.Given as goal

abbrev pub invariant-loop-rest : goal.invariant-loop-rest
invariant-loop-rest l = Declares l.type_row l.text l.rest

abbrev pub decreases-loop-rest : goal.decreases-loop-rest
decreases-loop-rest l = length l.rest
