-- `meets`: one law for each answer.
use Rattle.fits.proofs.Walks.{met_here, met_there, met_free}
use Rattle.fits.proofs.meets.Goals as goal

pub returns-then-after-place : goal.returns-then-after-place
returns-then-after-place c = search met_here

pub returns-then-required-eq-REQUIRED : goal.returns-then-required-eq-REQUIRED
returns-then-required-eq-REQUIRED c = search met_there

pub returns : goal.returns
returns c = search met_free
