-- `value::entry_of` meets its contract. Assumes nothing.
use mathlib.Core.Path.{◌≡◌}
use lib.ListN.{drop}
use Rattle.value.proofs.Lists.{entry_among}
use Rattle.value.proofs.entry_of.Given as goal

abbrev pub invariant-loop-pair : goal.invariant-loop-pair
invariant-loop-pair l = entry_among l.text l.pairs ≡ entry_among l.text (drop l.pair-index l.pairs)
