-- `below_fits`, `child_fits`, `under_fits`: the cycle of calls; the remaining depth falls.
use Rattle.std.proofs.Common.{length, ◌≡◌, ◌+◌, ◌*◌}
use Rattle.typing.proofs.LinkLaws.{Below}
use Rattle.typing.proofs.links.+below_fits_child_fits_under_fits.Given as goal

abbrev pub decreases-below_fits : goal.decreases-below_fits
decreases-below_fits l = l.depth * 4 + 2

abbrev pub decreases-child_fits : goal.decreases-child_fits
decreases-child_fits l = l.depth * 4 + 1

abbrev pub decreases-under_fits : goal.decreases-under_fits
decreases-under_fits l = l.depth * 4

abbrev pub invariant-below_fits-loop-j : goal.invariant-below_fits-loop-j
invariant-below_fits-loop-j l = Below l.rows l.line l.p l.q l.node l.depth l.initial.work l.work l.j × (length l.work ≡ length l.initial.work)
