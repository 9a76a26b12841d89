-- `elements`, `entries`, `fits`, `row_fits`: the cycle of calls; the remaining depth falls.
use Rattle.std.proofs.Common.{rules}
use Rattle.fits.proofs.Search.{elements_end, elements_off, elements_on, elements_start, entries_done, entries_more, entries_off, entries_start, entries_undeclared, fits_deep, fits_no, fits_yes, row_lacks, row_no_record, row_no_set, row_record, row_set}
use Rattle.fits.proofs.Walks.{ahead_on, ahead_start}
use Rattle.fits.proofs.+elements_entries_fits_row_fits.Goals as goal

pub elements-loop-x-init : goal.elements-loop-x-init
elements-loop-x-init t c = (search elements_start, search rules)

pub elements-returns-then-not-fits : goal.elements-returns-then-not-fits
elements-returns-then-not-fits t c = search elements_off

pub elements-loop-x-preserved : goal.elements-loop-x-preserved
elements-loop-x-preserved t c = (search elements_on, search rules)

pub elements-returns : goal.elements-returns
elements-returns t c = search elements_end

pub entries-loop-rest-init : goal.entries-loop-rest-init
entries-loop-rest-init t c = (search entries_start, (search rules, search ahead_start))

pub entries-returns-in_default-declared_at : goal.entries-returns-in_default-declared_at
entries-returns-in_default-declared_at t c = search (entries_undeclared, c.in_default-declared_at.ensures)

pub entries-returns-then-not-fits : goal.entries-returns-then-not-fits
entries-returns-then-not-fits t c = search (entries_off, c.in-Some.ensures)

pub entries-loop-rest-preserved : goal.entries-loop-rest-preserved
entries-loop-rest-preserved t c = (search (entries_more, c.in-Some.ensures), (search rules, search ahead_on))

pub entries-returns : goal.entries-returns
entries-returns t c = search entries_done

pub fits-returns-then-depth-eq0 : goal.fits-returns-then-depth-eq0
fits-returns-then-depth-eq0 t c = search fits_deep

pub fits-returns-then-not-row_fits : goal.fits-returns-then-not-row_fits
fits-returns-then-not-row_fits t c = search fits_no

pub fits-returns : goal.fits-returns
fits-returns t c = search fits_yes

pub row_fits-returns-then-not-complete : goal.row_fits-returns-then-not-complete
row_fits-returns-then-not-complete t c = search row_lacks

pub row_fits-returns-in-14 : goal.row_fits-returns-in-14
row_fits-returns-in-14 t c = search row_set

pub row_fits-returns-in_default-k : goal.row_fits-returns-in_default-k
row_fits-returns-in_default-k t c = search row_no_set

pub row_fits-returns-else-not-complete : goal.row_fits-returns-else-not-complete
row_fits-returns-else-not-complete t c = search row_record

pub row_fits-returns-in_default-k-2 : goal.row_fits-returns-in_default-k-2
row_fits-returns-in_default-k-2 t c = search row_no_record
