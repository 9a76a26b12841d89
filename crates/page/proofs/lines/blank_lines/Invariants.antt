-- `page::lines::blank_lines` meets its contract. Assumes nothing.
use Rattle.listing.proofs.Printing.{Printing}
use Rattle.page.specs.Said.{blank_lines_def}
use Rattle.page.proofs.Rows.{blank_left}
use Rattle.page.proofs.lines.blank_lines.Given as goal

abbrev pub invariant-loop-i : goal.invariant-loop-i
invariant-loop-i l = Printing (blank_lines_def l.n) (blank_left l.n l.i) l.initial.out l.out
