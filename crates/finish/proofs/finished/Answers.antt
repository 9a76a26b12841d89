-- `finish::finished` meets its contract. Assumes nothing.
use Rattle.finish.proofs.Finishing.{finishes}
use borrow.Author.Rules.{rules}
use Rattle.finish.proofs.finished.Goals as goal

pub returns : goal.returns
returns c = search (finishes, rules)
