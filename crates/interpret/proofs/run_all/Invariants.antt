-- `interpret::run_all` meets its contract. Assumes nothing.
use mathlib.Core.Path.{◌≡◌}
use Rattle.table.specs.Layout.{RUN}
use lib.ListN.{length, get_or}
use Rattle.value.specs.Clear.{Clear}
use Rattle.interpret.proofs.Turns.{Running}
use Rattle.interpret.proofs.run_all.Given as goal

abbrev pub invariant-loop-i : goal.invariant-loop-i
invariant-loop-i l =
    Running l.sheet (get_or l.initial.rows RUN 0) l.initial.rows l.rows l.log.words.now l.log.top l.i
    × ((length l.rows ≡ length l.initial.rows) × (l.log.words.ghost_name ≡ l.initial.log.words.ghost_name) × Clear l.rows l.skip)
