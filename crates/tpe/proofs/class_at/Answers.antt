-- `tpe::class_at` meets its contract. Assumes nothing.
use Rattle.tpe.proofs.Ways.{at_value, at_error, at_open}
use borrow.Author.Rules.{rules}
use Rattle.tpe.proofs.class_at.Goals as goal

pub returns-in-Value : goal.returns-in-Value
returns-in-Value c = search (at_value, rules)

pub returns-in-Error : goal.returns-in-Error
returns-in-Error c = search (at_error, rules)

pub returns-in-Open : goal.returns-in-Open
returns-in-Open c = search (at_open, rules)
