-- `tags_fit`: what is left of the tags decides.
use Rattle.std.proofs.Common.{◌≡◌, length}
use Rattle.fits.proofs.Search.{Tagged}
use Rattle.fits.proofs.tags_fit.Given as goal

abbrev pub invariant-loop-rest : goal.invariant-loop-rest
invariant-loop-rest l = Tagged l.rows l.line l.ty l.initial.work l.work l.rest × (length l.work ≡ length l.initial.work)

abbrev pub decreases-loop-rest : goal.decreases-loop-rest
decreases-loop-rest l = length l.rest
