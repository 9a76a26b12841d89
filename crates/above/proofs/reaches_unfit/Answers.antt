-- `above::reaches_unfit` meets its contract. Assumes nothing.
use mathlib.Core.Path.{sym}
use lib.Seq.{length-take-le}
use Rattle.reach.specs.Marks.{VALUES, MARKS}
use Rattle.reach.proofs.Steps.{filled_new, filled_part}
use Rattle.above.proofs.Fits.{cut_most}
use Rattle.above.proofs.Tops.{top_fits}
use borrow.Author.Rules.{rules}
use Rattle.above.proofs.reaches_unfit.Goals as goal

pub returns-then-is_top : goal.returns-then-is_top
returns-then-is_top c = search (top_fits, rules)

pub slice_bounds-found_unfit-end : goal.slice_bounds-found_unfit-end
slice_bounds-found_unfit-end c = sym (length-take-le _ _ (search rules))

pub found_unfit-requires : goal.found_unfit-requires
found_unfit-requires c = let v = c.values-n in record { met_len_bound = (cut_most v.result _ v.ensures, search rules); filled = (filled_part v.result 0 _ (filled_new VALUES 0), filled_new MARKS 0); fit = search rules }
