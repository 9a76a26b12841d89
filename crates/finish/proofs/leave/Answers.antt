-- `finish::leave` meets its contract. Assumes nothing.
use Rattle.finish.proofs.Finishing.{left_run}
use borrow.Author.Rules.{rules}
use Rattle.finish.proofs.leave.Goals as goal

pub returns : goal.returns
returns c = search (left_run, rules)
