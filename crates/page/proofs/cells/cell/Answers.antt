-- `page::cells::cell` meets its contract. Assumes nothing.
use Rattle.page.proofs.Columns.{part_cut, cell_cut, cell_filled}
use borrow.Author.Rules.{rules}
use Rattle.page.proofs.cells.cell.Goals as goal

pub slice_bounds-bytes-end : goal.slice_bounds-bytes-end
slice_bounds-bytes-end c = search (part_cut, rules)

pub returns-then-text-width : goal.returns-then-text-width
returns-then-text-width c = search (cell_cut, rules)

pub returns : goal.returns
returns c = search (cell_filled, rules)
