use Rattle.table.specs.Layout.{rows_of}
use Rattle.sheet.specs.Answer.{concat}
use Rattle.sheet.specs.Forms.{NODE}
use Rattle.listing.specs.Nodes.{log_lines}
use Rattle.listing.proofs.Printing.{Printing}
use Rattle.listing.proofs.NodeLines.{lines_from}
use Rattle.listing.proofs.nodes.node_lines.Given as goal

abbrev pub invariant-loop-i : goal.invariant-loop-i
invariant-loop-i l = Printing (concat (log_lines (rows_of l.rows NODE) l.log)) (lines_from (rows_of l.rows NODE) l.log l.i) l.initial.out l.out
