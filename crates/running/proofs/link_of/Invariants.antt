-- `running::link_of` meets its contract. Assumes nothing.
use mathlib.Core.Path.{◌≡◌}
use lib.ListN.{drop}
use Rattle.sheet.specs.Forms.{LINK}
use Rattle.sheet.specs.Content.{link_of}
use Rattle.table.specs.Layout.{rows_of}
use Rattle.running.proofs.link_of.Given as goal

abbrev pub invariant-loop-i : goal.invariant-loop-i
invariant-loop-i l = link_of (rows_of l.rows LINK) l.policy ≡ link_of (drop l.i (rows_of l.rows LINK)) l.policy
