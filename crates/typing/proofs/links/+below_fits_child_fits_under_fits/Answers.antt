-- `below_fits`, `child_fits`, `under_fits`: the cycle of calls; the remaining depth falls.
use Rattle.std.proofs.Common.{rules}
use Rattle.typing.proofs.LinkLaws.{below_end, below_off, below_on, below_start, child_later, child_none, child_some, under_deep, under_no, under_yes}
use Rattle.typing.proofs.links.+below_fits_child_fits_under_fits.Goals as goal

pub below_fits-loop-j-init : goal.below_fits-loop-j-init
below_fits-loop-j-init t c = (search below_start, search rules)

pub below_fits-returns-then-not-child_fits : goal.below_fits-returns-then-not-child_fits
below_fits-returns-then-not-child_fits t c = search below_off

pub below_fits-loop-j-preserved : goal.below_fits-loop-j-preserved
below_fits-loop-j-preserved t c = (search below_on, search rules)

pub below_fits-returns : goal.below_fits-returns
below_fits-returns t c = search below_end

pub child_fits-returns-then-code-ne-OF_NODE : goal.child_fits-returns-then-code-ne-OF_NODE
child_fits-returns-then-code-ne-OF_NODE t c = search child_none

pub child_fits-returns-then-child-node : goal.child_fits-returns-then-child-node
child_fits-returns-then-child-node t c = search child_later

pub child_fits-returns : goal.child_fits-returns
child_fits-returns t c = search child_some

pub under_fits-returns-then-depth-eq0 : goal.under_fits-returns-then-depth-eq0
under_fits-returns-then-depth-eq0 t c = search under_deep

pub under_fits-returns-then-not-slot_fits : goal.under_fits-returns-then-not-slot_fits
under_fits-returns-then-not-slot_fits t c = search under_no

pub under_fits-returns : goal.under_fits-returns
under_fits-returns t c = search under_yes
