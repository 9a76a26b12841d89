-- `load::load` meets its contract. Assumes nothing.
use mathlib.Core.Path.{◌≡◌}
use mathlib.Core.Bool.{true}
use Prim.Native.Nat.{◌-◌}
use lib.ListN.{length}
use Rattle.sheet.specs.Sheet.{in_order}
use Rattle.table.specs.Layout.{held}
use Rattle.line.specs.Codes.{mode_of}
use Rattle.seen.specs.Seen.{PLACE_WORDS, Seen}
use Rattle.load.proofs.Loading.{Progress}
use Rattle.load.proofs.load.Given as goal

abbrev pub invariant-lines : goal.invariant-lines
invariant-lines l = Progress (mode_of l.partial) l.sheet l.initial.rows l.initial.work l.rows l.work l.c.at l.c.line × Seen (held l.sheet l.rows l.work) l.seen × (PLACE_WORDS ≡ length l.seen) × (in_order (held l.sheet l.rows l.work) l.last ≡ true)

abbrev pub decreases-lines : goal.decreases-lines
decreases-lines l = length l.sheet - l.c.at
