-- `page::lines::effect_cell` meets its contract. Assumes nothing.
use Rattle.page.proofs.Rows.{effected}
use borrow.Author.Rules.{rules}
use Rattle.page.proofs.lines.effect_cell.Goals as goal

pub returns-in-Permit : goal.returns-in-Permit
returns-in-Permit c = search (effected, rules)

pub returns-in-Forbid : goal.returns-in-Forbid
returns-in-Forbid c = search (effected, rules)
