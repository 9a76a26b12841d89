-- `running::runs_on` meets its contract. Assumes nothing.
use mathlib.Core.Path.{◌≡◌}
use lib.ListN.{drop}
use Rattle.sheet.specs.Forms.{TERM}
use Rattle.sheet.specs.Content.{runs_on}
use Rattle.table.specs.Layout.{rows_of}
use Rattle.running.proofs.runs_on.Given as goal

abbrev pub invariant-loop-i : goal.invariant-loop-i
invariant-loop-i l = runs_on l.day (rows_of l.rows TERM) l.policy ≡ runs_on l.day (drop l.i (rows_of l.rows TERM)) l.policy
