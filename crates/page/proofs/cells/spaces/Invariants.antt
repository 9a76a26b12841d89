-- `page::cells::spaces` meets its contract. Assumes nothing.
use Rattle.paged.specs.Page.{spaces}
use Rattle.listing.proofs.Printing.{Printing}
use Rattle.page.proofs.Columns.{spaces_left}
use Rattle.page.proofs.cells.spaces.Given as goal

abbrev pub invariant-loop-i : goal.invariant-loop-i
invariant-loop-i l = Printing (spaces l.n) (spaces_left l.n l.i) l.initial.out l.out
