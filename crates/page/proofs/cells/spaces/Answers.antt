-- `page::cells::spaces` meets its contract. Assumes nothing.
use Rattle.page.proofs.Columns.{spaces_start, spaces_on, spaces_end}
use borrow.Author.Rules.{rules}
use Rattle.page.proofs.cells.spaces.Goals as goal

pub loop-i-init : goal.loop-i-init
loop-i-init c = spaces_start _ _

pub loop-i-preserved : goal.loop-i-preserved
loop-i-preserved c = search (spaces_on, rules)

pub returns : goal.returns
returns c = search (spaces_end, rules)
