-- `page::cells::right_number` meets its contract. Assumes nothing.
use Rattle.page.proofs.Columns.{number_within, number_part, number_right}
use borrow.Author.Rules.{rules}
use Rattle.page.proofs.cells.right_number.Goals as goal

pub slice_bounds-text-end : goal.slice_bounds-text-end
slice_bounds-text-end c = search (number_within, rules)

pub slice_bounds-right_cell-end : goal.slice_bounds-right_cell-end
slice_bounds-right_cell-end c = search (number_part, rules)

pub returns : goal.returns
returns c = search (number_right, rules)
