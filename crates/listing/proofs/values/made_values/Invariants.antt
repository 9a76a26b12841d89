use lib.ListN.{drop}
use Rattle.table.specs.Layout.{rows_of, MADE}
use Rattle.listing.specs.Values.{made_lines}
use Rattle.listing.proofs.Printing.{Printing}
use Rattle.listing.proofs.Made.{made_out}
use Rattle.listing.proofs.values.made_values.Given as goal

abbrev pub invariant-loop-i : goal.invariant-loop-i
invariant-loop-i l = Printing (made_lines l.rows) (made_out (drop l.i (rows_of l.rows MADE))) l.initial.out l.out
