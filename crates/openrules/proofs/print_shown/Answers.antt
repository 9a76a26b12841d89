-- `openrules::print_shown` asks of what is shown that it is in the buffer. Assumes nothing.
use mathlib.Core.Path.{refl}
use Rattle.openrules.proofs.print_shown.Goals as goal

pub slice_bounds-out-end : goal.slice_bounds-out-end
slice_bounds-out-end g c = (c.requires.within _ _ _ (record { shown = _; shows = refl; left = _; met = c.show-k.ensures; leaves = refl })).0

pub slice_bounds-write_all-end : goal.slice_bounds-write_all-end
slice_bounds-write_all-end g c = (c.requires.within _ _ _ (record { shown = _; shows = refl; left = _; met = c.show-k.ensures; leaves = refl })).1
