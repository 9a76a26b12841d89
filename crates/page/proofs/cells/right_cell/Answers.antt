-- `page::cells::right_cell` meets its contract. Assumes nothing.
use Rattle.page.proofs.Columns.{part_cut, right_cut, right_filled}
use borrow.Author.Rules.{rules}
use Rattle.page.proofs.cells.right_cell.Goals as goal

pub slice_bounds-bytes-end : goal.slice_bounds-bytes-end
slice_bounds-bytes-end c = search (part_cut, rules)

pub returns-then-text-width : goal.returns-then-text-width
returns-then-text-width c = search (right_cut, rules)

pub returns : goal.returns
returns c = search (right_filled, rules)
