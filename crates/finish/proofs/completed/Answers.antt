-- `finish::completed` meets its contract. Assumes nothing.
use Rattle.finish.proofs.Finishing.{complete_refused, complete_stands, complete_passed}
use borrow.Author.Rules.{rules}
use Rattle.finish.proofs.completed.Goals as goal

pub returns-in-Err : goal.returns-in-Err
returns-in-Err c = search (complete_refused, rules)

pub agreed-requires : goal.agreed-requires
agreed-requires c = search (complete_stands, rules)

pub returns : goal.returns
returns c = search (complete_passed, rules)
