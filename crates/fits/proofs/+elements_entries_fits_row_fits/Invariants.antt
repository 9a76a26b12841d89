-- `elements`, `entries`, `fits`, `row_fits`: the cycle of calls; the remaining depth falls.
use Rattle.std.proofs.Common.{length, ◌≡◌, ◌+◌, ◌*◌}
use Rattle.fits.proofs.Search.{Elements, Entered}
use Rattle.fits.specs.Fit.{Ahead}
use Rattle.fits.proofs.+elements_entries_fits_row_fits.Given as goal

abbrev pub decreases-elements : goal.decreases-elements
decreases-elements l = l.depth * 4 + 1

abbrev pub decreases-entries : goal.decreases-entries
decreases-entries l = l.depth * 4 + 1

abbrev pub decreases-fits : goal.decreases-fits
decreases-fits l = l.depth * 4

abbrev pub decreases-row_fits : goal.decreases-row_fits
decreases-row_fits l = l.depth * 4 + 2

abbrev pub invariant-elements-loop-x : goal.invariant-elements-loop-x
invariant-elements-loop-x l = Elements l.rows l.line l.ty l.depth l.initial.work l.work l.x-items l.x-index × (length l.work ≡ length l.initial.work)

abbrev pub invariant-entries-loop-rest : goal.invariant-entries-loop-rest
invariant-entries-loop-rest l = Entered l.rows l.value_row l.type_row l.depth l.initial.work l.work l.rest × ((length l.work ≡ length l.initial.work) × Ahead l.type_row l.place)

abbrev pub decreases-entries-loop-rest : goal.decreases-entries-loop-rest
decreases-entries-loop-rest l = length l.rest
