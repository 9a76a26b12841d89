-- `page::lines::class_cell` meets its contract. Assumes nothing.
use Rattle.page.proofs.Rows.{classed}
use borrow.Author.Rules.{rules}
use Rattle.page.proofs.lines.class_cell.Goals as goal

pub returns-in-True : goal.returns-in-True
returns-in-True c = search (classed, rules)

pub returns-in-False : goal.returns-in-False
returns-in-False c = search (classed, rules)

pub returns-in-Error : goal.returns-in-Error
returns-in-Error c = search (classed, rules)

pub returns-in-Open : goal.returns-in-Open
returns-in-Open c = search (classed, rules)
