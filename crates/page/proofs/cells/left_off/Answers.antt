-- `page::cells::left_off` meets its contract. Assumes nothing.
use Rattle.page.proofs.Columns.{left_within, left_part, left_is}
use borrow.Author.Rules.{rules}
use Rattle.page.proofs.cells.left_off.Goals as goal

pub slice_bounds-text-end : goal.slice_bounds-text-end
slice_bounds-text-end c = search (left_within, rules)

pub slice_bounds-cell-end : goal.slice_bounds-cell-end
slice_bounds-cell-end c = search (left_part, rules)

pub returns : goal.returns
returns c = search (left_is, rules)
